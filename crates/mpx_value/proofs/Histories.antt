-- What gatherings give birth to, and answers that name births.
use Rattle.std.proofs.Common.{◌≡◌, ℕ, ℤ, ◌<◌, Bool, true, cond, not, ◌&&◌, List, length, Option, Some, None, refl, ap, arith}
use Rattle.std.specs.Prelude.{nat_lt, Ok}
use Rattle.std.specs.List.{list_all}
use Rattle.std.proofs.lemmas.Bool.{and_from}
use Rattle.std.proofs.lemmas.Bool.Decides.{nat_tests}
use Rattle.mpx_group.specs.Group.{has, has_twice}
use Rattle.mpx_name.specs.Name.{Name}
use Rattle.mpx_birth.specs.Births.{BirthView, of_members}
use Rattle.mpx_post.specs.Gatherings.{GatheringView, gathering}
use Rattle.mpx_post.proofs.Gatherings.{gathers, some_is_more}
use Rattle.mpx_value.specs.declared.outcomes.Outcome.{Outcome}
use Rattle.mpx_value.specs.declared.outcomes.Outcome.TheVariants.{Nothing, Absent, Items, NewComm, Null, Fault}
use Rattle.mpx_value.specs.Histories.{Answer, answer_with, gathered}

-- members that gather may do so
pub gathered_there : (birth : BirthView) (me depth : ℕ) (closed : Bool) (tag : ℤ) (ranks : List ℤ) (g : GatheringView) → gathering birth me depth closed tag ranks ≡ Ok g → gathered g.members birth ≡ Some (of_members g.members)
gathered_there birth me depth closed tag ranks g e =
    let a = gathers birth me depth closed tag ranks g e in
    let l : 0 < length g.members = some_is_more g.members a.some in
    let more : nat_lt 0 (length g.members) ≡ true = grind (arith, nat_tests, l) in
    let may : (nat_lt 0 (length g.members) && (not (has_twice g.members) && list_all (has birth.members) g.members)) ≡ true =
    and_from _ _ more (and_from _ _ (ap not a.distinct) a.members) in
    ap (λ b. cond b (Some (of_members g.members)) None) may

-- the same answer where births that it names are the same
pub same_answer : (f g : Name → Option BirthView) (outcome : Outcome) → ((new : Name) (size rank : ℕ) → outcome ≡ NewComm new size rank → f new ≡ g new) → answer_with f outcome ≡ answer_with g outcome
same_answer f g Nothing h = refl
same_answer f g Absent h = refl
same_answer f g (Items items) h = refl
same_answer f g (NewComm new size rank) h = ap (λ born. let a : Answer = record { outcome = NewComm new size rank; born = born } in a) (h new size rank refl)
same_answer f g Null h = refl
same_answer f g (Fault fault) h = refl
