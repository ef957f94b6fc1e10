-- The ports of a new bus.
use Rattle.std.proofs.Common.{◌≡◌, ◌+◌, ℕ, List, [], ◌∷◌, ◌++◌, length, length-append, false, arith, refl, sym, ap, ◌∙◌, subst}
use Rattle.atomic_table.specs.Seated.{TableId}
use Rattle.mpx_bus.specs.declared.act.Setup.{Setup}
use Rattle.mpx_num.specs.declared.own.Operation.{Operation}
use Rattle.mpx_bus.specs.Ports.{PortView, PortGoesOn, IsFleet, IsNew, KeepsPlan}
use Rattle.mpx_bus.specs.Rule.{Stood}
use Rattle.mpx_bus.proofs.Makes.{fleet_before, fleet_last}
use Rattle.mpx_shared.specs.LawfulPorts.{IsLawful}
use Rattle.mpx_shared.proofs.LawfulPorts.{new_lawful, new_none}
use Rattle.process_tests.specs.Fresh.{ArePair, IsFresh}

-- a lawful port that goes on is lawful by its own queue and setup
pub lawful_later : {table : TableId} {setup : Setup} {me : ℕ} (a b : PortView) → IsLawful table setup me a → PortGoesOn a b → (KeepsPlan b → Stood b.setup b.me b.journal) → IsLawful b.table b.setup me b
lawful_later a b lawful goes stood = record { table_is = refl; setup_is = refl; me_is = goes.same.me ∙ lawful.me_is; planned = goes.plan lawful.planned; stood = stood (goes.plan lawful.planned) }

module _ (setup : Setup) (table : TableId) (unplanned : setup.planned ≡ false) (ops : List Operation) (lent : ops ≡ setup.operations) where
  new_fresh : (me : ℕ) (b : PortView) → IsNew setup table me b → IsFresh ops table me b
  new_fresh me b new = record {
    lawful = subst (λ (s : Setup). IsLawful table s me b) (sym new.setup_is) (new_lawful setup table me b new);
    none = new_none setup table me b new;
    plan = ap (λ (s : Setup). s.planned) new.setup_is ∙ unplanned;
    list = lent ∙ ap (λ (s : Setup). s.operations) (sym new.setup_is);
  }

  fresh_at : (me i : ℕ) (b : PortView) → i ≡ me → IsNew setup table i b → IsFresh ops table me b
  fresh_at me i b is new = subst (λ (j : ℕ). IsFresh ops table j b) is (new_fresh i b new)

  one_more : (ports rest : List PortView) (b : PortView) → ports ≡ rest ++ b ∷ [] → length ports ≡ length rest + 1
  one_more ports rest b is = ap length is ∙ length-append rest (b ∷ [])

  pub fresh_last : (me n : ℕ) (ports rest : List PortView) (b : PortView) → n ≡ me + 1 → IsFleet setup table n ports → ports ≡ rest ++ b ∷ [] → IsFresh ops table me b
  fresh_last me n ports rest b count fleet is =
      let more = one_more ports rest b is in
      fresh_at me (length rest) b (omega (arith, count, fleet.count, more)) (fleet_last setup table n ports rest b fleet is)

  fresh_before : (me n : ℕ) (ports rest front : List PortView) (b a : PortView) → n ≡ me + 2 → IsFleet setup table n ports → ports ≡ rest ++ b ∷ [] → rest ≡ front ++ a ∷ [] → IsFresh ops table me a
  fresh_before me n ports rest front b a count fleet is is' =
      let more = one_more ports rest b is in
      let more' = one_more rest front a is' in
      fresh_at me (length front) a (omega (arith, count, fleet.count, more, more')) (fleet_before setup table n ports rest front b a fleet is is')

  pub pair_of : (ports rest front : List PortView) (b a : PortView) → IsFleet setup table 2 ports → ports ≡ rest ++ b ∷ [] → rest ≡ front ++ a ∷ [] → ArePair ops table a b
  pair_of ports rest front b a fleet is is' = record {
    first = fresh_before 0 2 ports rest front b a refl fleet is is';
    second = fresh_last 1 2 ports rest b refl fleet is;
    setup = (fleet_last setup table 2 ports rest b fleet is).setup_is ∙ sym (fleet_before setup table 2 ports rest front b a fleet is is').setup_is;
  }
