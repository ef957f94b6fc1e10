-- What happens in the world of a system.
use Rattle.std.proofs.Common.{ℕ, ◌<◌, List, [], ◌∷◌, refl, sym, subst}
use Rattle.mpx_num.specs.declared.own.Operation.{Operation}
use Rattle.mpx_world.specs.Worlds.{MayGoOn}
use Rattle.mpx_world.proofs.Whole.{LeadsTo, leads_by, leads_nowhere, leads_on}
use Rattle.mpx_statement.specs.declared.statement.Statement.{Statement}
use Rattle.mpx_statement.specs.declared.statement.Statement.TheVariants.{Post, Wait, Ask}
use Rattle.mpx_meaning.specs.Ranks.{Todo, Do, Await}
use Rattle.mpx_system.specs.Systems.{System, Doing, Nets, Drives, IsOfHappenings, MayDo, MayDoAll, does, does_all, posts_of, start_system}
use Rattle.mpx_system.proofs.Coupling.{Couples, couples_does, couples_start, driven}

module _ (ops : List Operation) (script : List (List Statement)) (ranks : ℕ) where
  -- what a rank's next move gives its node to post may happen
  may_posts : (s : System) → Couples ops script ranks s → (p : ℕ) → p < ranks → (todo : List Todo) → MayGoOn s.world (posts_of ops p (s.world.each p).made (s.ranks p).bound todo)
  may_posts s c p l [] = tt
  may_posts s c p l (Do (Post posting) ∷ rest) = (driven ops script ranks s c p l posting).may
  may_posts s c p l (Do (Wait requests) ∷ rest) = tt
  may_posts s c p l (Do (Ask question) ∷ rest) = tt
  may_posts s c p l (Await name call target ∷ rest) = tt

  doing_leads : (s : System) → Couples ops script ranks s → (d : Doing) → MayDo ranks s d → LeadsTo s.world (does s d).world
  doing_leads s c (Nets h) m = leads_by s.world h m.1
  doing_leads s c (Drives p) m = record {
    happenings = posts_of s.world.operations p (s.world.each p).made (s.ranks p).bound (s.ranks p).todo;
    may = subst (λ o. MayGoOn s.world (posts_of o p (s.world.each p).made (s.ranks p).bound (s.ranks p).todo)) (sym c.operations) (may_posts s c p m (s.ranks p).todo);
    is = refl;
  }

  pub doings_lead : (ds : List Doing) (s : System) → Couples ops script ranks s → MayDoAll ranks s ds → LeadsTo s.world (does_all s ds).world
  doings_lead [] s c m = leads_nowhere s.world
  doings_lead (d ∷ ds) s c m =
      leads_on s.world (does s d).world (does_all (does s d) ds).world (doing_leads s c d m.0) (doings_lead ds (does s d) (couples_does ops script ranks s c d m.0) m.1)

-- the world of a run is one of happenings
pub of_happenings : (ops : List Operation) (script : List (List Statement)) (ranks size : ℕ) (ds : List Doing) → MayDoAll ranks (start_system ops script ranks size) ds → IsOfHappenings ops ranks size (does_all (start_system ops script ranks size) ds).world
of_happenings ops script ranks size ds m = let x = doings_lead ops script ranks ds (start_system ops script ranks size) (couples_start ops script ranks size) m in record { happenings = x.happenings; may = x.may; reached = x.is }
