-- Doings, one after the other.
use Rattle.std.proofs.Common.{◌≡◌, ℕ, List, [], ◌∷◌, ◌++◌, refl, sym, ap, ◌∙◌, subst}
use Rattle.mpx_num.specs.declared.own.Operation.{Operation}
use Rattle.mpx_meaning.specs.Evaluation.{Script}
use Rattle.mpx_system.specs.Systems.{System, Doing, does, does_all, MayDo, MayDoAll, Leads, start_system}
use Rattle.mpx_system.proofs.Coupling.{Couples, couples_all, couples_start}

pub does_all-push : (ds : List Doing) (d : Doing) (s : System) → does_all s (ds ++ d ∷ []) ≡ does (does_all s ds) d
does_all-push [] d s = refl
does_all-push (x ∷ ds) d s = does_all-push ds d (does s x)

pub may-push : (ranks : ℕ) (ds : List Doing) (d : Doing) (s : System) → MayDoAll ranks s ds → MayDo ranks (does_all s ds) d → MayDoAll ranks s (ds ++ d ∷ [])
may-push ranks [] d s m n = (n, tt)
may-push ranks (x ∷ ds) d s m n = (m.0, may-push ranks ds d (does s x) m.1 n)

-- nothing is done
pub leads_nowhere : (ranks : ℕ) (s : System) → Leads ranks s s
leads_nowhere ranks s = record { doings = []; may = tt; reached = refl }

-- one more is done
pub leads_on : (ranks : ℕ) (from to : System) (d : Doing) → Leads ranks from to → MayDo ranks to d → Leads ranks from (does to d)
leads_on ranks from to d l m = record {
  doings = l.doings ++ d ∷ [];
  may = may-push ranks l.doings d from l.may (subst (λ s. MayDo ranks s d) (sym l.reached) m);
  reached = does_all-push l.doings d from ∙ ap (λ s. does s d) l.reached;
}

-- what is so of a system to which doings lead from the start
pub coupled : (ops : List Operation) (script : Script) (ranks size : ℕ) (s : System) → Leads ranks (start_system ops script ranks size) s → Couples ops script ranks s
coupled ops script ranks size s led = subst (Couples ops script ranks) led.reached (couples_all ops script ranks led.doings (start_system ops script ranks size) (couples_start ops script ranks size) led.may)
