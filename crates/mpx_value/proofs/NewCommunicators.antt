-- Each child of a call is the one of its colour, and new communicators are children.
use Rattle.std.proofs.Common.{◌≡◌, ℕ, zero, suc, ◌<◌, ◌==◌, Bool, true, false, List, [], ◌∷◌, length, cond, get_or, Option, Some, None, refl, sym, ap, ◌∙◌, arith}
use Rattle.std.specs.Prelude.{filter, slice_get}
use Rattle.std.specs.List.{AllPairs, filter_map}
use Rattle.std.specs.Option.{option_map_or}
use Rattle.std.proofs.lemmas.Bool.{cond-false, cond-true, eq-eqb, eqb-true, ne_eqb}
use Rattle.std.proofs.lemmas.List.Kept.{AllPairs-filter}
use Rattle.std.proofs.lemmas.List.Quantifiers.{position-Some}
use Rattle.std.proofs.lemmas.Option.{get_or_from_slice_get, option_and_then_some, slice_get_within}
use Rattle.mpx_name.specs.declared.steps.Step.TheVariants.{Child}
use Rattle.mpx_name.specs.Name.{Name}
use Rattle.mpx_num.specs.declared.own.Operation.{Operation}
use Rattle.mpx_match.specs.declared.faults.FaultKind.TheVariants.{Amount}
use Rattle.mpx_match.specs.declared.faults.Verdict.{Verdict}
use Rattle.mpx_match.specs.declared.faults.Verdict.TheVariants as V
use Rattle.mpx_match.specs.Verdicts.{verdict}
use Rattle.mpx_fold.specs.Folds.{fold_of}
use Rattle.mpx_move.specs.Moves.{move_of}
use Rattle.mpx_neigh.specs.Neighbourhoods.{neigh_given}
use Rattle.mpx_kind.specs.declared.kinds.Kind.{Kind}
use Rattle.mpx_kind.specs.declared.kinds.Kind.TheVariants as K
use Rattle.mpx_kind.specs.declared.kinds.NewCommunicator.{NewCommunicator}
use Rattle.mpx_kind.specs.declared.kinds.NewCommunicator.TheVariants as N
use Rattle.mpx_post.specs.declared.value.Value.{Value}
use Rattle.mpx_post.specs.declared.value.Value.TheVariants as G
use Rattle.mpx_birth.specs.Births.{BirthView, rank_in, upto}
use Rattle.mpx_post.specs.Posts.{colour_of}
use Rattle.mpx_post.specs.Rows.{RowView}
use Rattle.mpx_post.specs.Agreement.{first_of}
use Rattle.mpx_value.specs.declared.outcomes.Outcome.{Outcome}
use Rattle.mpx_value.specs.declared.outcomes.Outcome.TheVariants.{NewComm, Fault}
use Rattle.mpx_value.specs.Children.{ChildView, children, children_by, children_in, child, colours_of, group_child, has_room, IsNewCommunicator, leads, named_children, of_colour, split_child, unless_fault}
use Rattle.mpx_value.specs.Values.{as_outcome, given_as, new_communicator as told_new, or_fault, place_among, value}
use Rattle.mpx_value.specs.Histories.{value_for}
use Rattle.mpx_value.proofs.Rising.{AllPairs-map, rise-rising, rise-upto}

-- COLOURS

-- of two of them the earlier has the lower colour
abbrev pub Rise : List ChildView → Type 0
Rise made = AllPairs (λ (x y : ChildView). x.colour < y.colour) made

none : Rise []
none i j d l m = absurd (omega arith)

alone : (x : ChildView) → Rise (x ∷ [])
alone x i j d l m = absurd (omega arith)

rise_by : (new : NewCommunicator) (birth : BirthView) (row : RowView) → Rise (children_by new birth row)
rise_by N.Dup birth row = alone _
rise_by N.Split birth row = AllPairs-map (λ (x y : ChildView). x.colour < y.colour) (split_child birth row) (colours_of row) (rise-rising (filter_map colour_of row))
rise_by N.Create birth row =
    AllPairs-map (λ (x y : ChildView). x.colour < y.colour) (group_child birth row) (filter (leads row) (upto (length row)))
    (AllPairs-filter (λ (m n : ℕ). m < n) (leads row) (upto (length row)) (rise-upto (length row)))
rise_by N.CreateGroup birth row = alone _
rise_by N.DistGraph birth row = alone _
rise_by N.DistGraphAdjacent birth row = alone _

rise_in : (kind : Kind) (birth : BirthView) (row : RowView) → Rise (children_in kind birth row)
rise_in (K.NewCommunicator new) birth row = rise_by new birth row
rise_in kind birth row = none

rise_unless : (v : Verdict) (made : List ChildView) → Rise made → Rise (unless_fault v made)
rise_unless V.Fine made rise = rise
rise_unless (V.Fault fault) made rise = none

rise_where : (b : Bool) (made : List ChildView) → Rise made → Rise (cond b made [])
rise_where true made rise = rise
rise_where false made rise = none

pub colours_rise : (ops : List Operation) (birth : BirthView) (row : RowView) (name : Name) (call : ℕ) → Rise (children ops birth row name call)
unfolding children
colours_rise ops birth row name call =
    rise_where (has_room name) _ (rise_unless (verdict ops birth.topology row) _ (rise_in (first_of row).kind birth row))

exact : (made : List ChildView) (place : ℕ) (x : ChildView) → Rise made → slice_get made place ≡ Some x → of_colour x.colour made ≡ Some x.birth
exact [] place x rise e = cc e
exact (y ∷ rest) zero x rise e =
    let same : y ≡ x = cc e in
    cond-true (y.colour == x.colour) (Some y.birth) (of_colour x.colour rest) (eq-eqb y.colour x.colour (ap (λ (c : ChildView). c.colour) same)) ∙ ap (λ (c : ChildView). Some c.birth) same
exact (y ∷ rest) (suc place) x rise e =
    let later : get_or rest place x ≡ x = get_or_from_slice_get rest place x x e in
    let below : y.colour < (get_or rest place x).colour = rise 0 (suc place) x (omega arith) (omega (arith, slice_get_within rest place x e)) in
    cond-false (y.colour == x.colour) (Some y.birth) (of_colour x.colour rest) (ne_eqb y.colour x.colour (λ same. absurd (omega (arith, below, same, ap (λ (c : ChildView). c.colour) later))))
    ∙ exact rest place x (λ i j d l m. rise (suc i) (suc j) d (omega arith) (omega arith)) e

pub children_exact : (ops : List Operation) (birth : BirthView) (row : RowView) (name : Name) (call place : ℕ) (x : ChildView) → slice_get (children ops birth row name call) place ≡ Some x → child ops birth row name call x.colour ≡ Some x.birth
children_exact ops birth row name call place x e = exact (children ops birth row name call) place x (colours_rise ops birth row name call) e

-- where the name has room, a fine row makes all that it may
pub children_are : (ops : List Operation) (birth : BirthView) (row : RowView) (name : Name) (call : ℕ) → has_room name ≡ true → verdict ops birth.topology row ≡ V.Fine → children ops birth row name call ≡ children_in (first_of row).kind birth row
unfolding children
children_are ops birth row name call room fine =
    ap (λ (b : Bool). cond b (unless_fault (verdict ops birth.topology row) (children_in (first_of row).kind birth row)) []) room
    ∙ ap (λ (v : Verdict). unless_fault v (children_in (first_of row).kind birth row)) fine

-- WHAT IS TOLD

-- a communicator with this name and size, in which the process has this rank, is one of these
record IsOneOf (made : List ChildView) (name : Name) (call process : ℕ) (new : Name) (size rank : ℕ) : Type 0 where
  place : ℕ
  child : ChildView
  among : slice_get made place ≡ Some child
  named : new ≡ Child call child.colour ∷ name
  counted : size ≡ length child.birth.members
  member : rank_in process child.birth.members ≡ Some rank

one_of : (made : List ChildView) (name : Name) (call process : ℕ) (new : Name) (size rank : ℕ) → place_among (named_children name call made) process ≡ NewComm new size rank → IsOneOf made name call process new size rank
one_of [] name call process new size rank e = cc e
one_of (x ∷ rest) name call process new size rank e = by_rank (rank_in process x.birth.members) refl (one_of rest name call process new size rank) e where
  by_rank : (o : Option ℕ) → rank_in process x.birth.members ≡ o → (place_among (named_children name call rest) process ≡ NewComm new size rank → IsOneOf rest name call process new size rank) → option_map_or (λ r. NewComm (Child call x.colour ∷ name) (length x.birth.members) r) o (place_among (named_children name call rest) process) ≡ NewComm new size rank → IsOneOf (x ∷ rest) name call process new size rank
  by_rank None f later g =
      let i = later g in
      record { place = suc i.place; child = i.child; among = i.among; named = i.named; counted = i.counted; member = i.member }
  by_rank (Some r) f later g = record { place = 0; child = x; among = refl; named = cc g; counted = cc g; member = f ∙ (let same : r ≡ rank = cc g in ap Some same) }

by_value : (value : Value) (new : Name) (size rank : ℕ) → as_outcome value ≡ NewComm new size rank → ⊥
by_value G.Nothing new size rank e = cc e
by_value G.Absent new size rank e = cc e
by_value (G.Items items) new size rank e = cc e

by_room : (b : Bool) (made : List ChildView) (name : Name) (call process : ℕ) (new : Name) (size rank : ℕ) → cond b (place_among (named_children name call made) process) (Fault (record { what = Amount; rank = 0 })) ≡ NewComm new size rank → (b ≡ true) × (place_among (named_children name call made) process ≡ NewComm new size rank)
by_room true made name call process new size rank e = (refl, e)
by_room false made name call process new size rank e = cc e

by_kind : (kind : Kind) (ops : List Operation) (birth : BirthView) (row : RowView) (name : Name) (call at : ℕ) (new : Name) (size rank : ℕ) → given_as kind ops birth row name call at ≡ NewComm new size rank → told_new birth row name call (get_or birth.members at 0) ≡ NewComm new size rank
by_kind (K.Exchange exchange) ops birth row name call at new size rank e = absurd (by_value (move_of exchange row at) new size rank e)
by_kind (K.Reduction reduction) ops birth row name call at new size rank e = absurd (by_value (fold_of ops reduction row at) new size rank e)
by_kind (K.Neighbourhood exchange) ops birth row name call at new size rank e = absurd (by_value (neigh_given exchange birth.topology row at) new size rank e)
by_kind (K.NewCommunicator made) ops birth row name call at new size rank e = e
by_kind K.Free ops birth row name call at new size rank e = cc e

by_verdict : (v : Verdict) (given : Outcome) (new : Name) (size rank : ℕ) → or_fault v given ≡ NewComm new size rank → (v ≡ V.Fine) × (given ≡ NewComm new size rank)
by_verdict V.Fine given new size rank e = (refl, e)
by_verdict (V.Fault fault) given new size rank e = cc e

at_rank : (ops : List Operation) (birth : BirthView) (row : RowView) (name : Name) (call at : ℕ) (new : Name) (size rank : ℕ) → value ops birth row name call at ≡ NewComm new size rank → place_among (named_children name call (children ops birth row name call)) (get_or birth.members at 0) ≡ NewComm new size rank
unfolding value
at_rank ops birth row name call at new size rank e =
    let given = by_verdict (verdict ops birth.topology row) (given_as (first_of row).kind ops birth row name call at) new size rank e in
    let found = by_room (has_room name) (children_in (first_of row).kind birth row) name call (get_or birth.members at 0) new size rank (by_kind (first_of row).kind ops birth row name call at new size rank given.1) in
    ap (λ (made : List ChildView). place_among (named_children name call made) (get_or birth.members at 0)) (children_are ops birth row name call found.0 given.0) ∙ found.1

-- what a row gives a process as its new communicator is one of the children
pub new_communicator : (ops : List Operation) (birth : BirthView) (me : ℕ) (row : RowView) (name : Name) (call : ℕ) (new : Name) (size rank : ℕ) → value_for ops birth me row name call ≡ Some (NewComm new size rank) → IsNewCommunicator ops birth row name call me new size rank
new_communicator ops birth me row name call new size rank e =
    option_and_then_some (λ at. Some (value ops birth row name call at)) (rank_in me birth.members) (NewComm new size rank) e (λ at place f.
    let given : value ops birth row name call at ≡ NewComm new size rank = cc f in
    let process : get_or birth.members at 0 ≡ me = eqb-true _ _ (position-Some (λ q. q == me) birth.members at 0 place).1 in
    let i = one_of (children ops birth row name call) name call me new size rank (ap (place_among (named_children name call (children ops birth row name call))) (sym process) ∙ at_rank ops birth row name call at new size rank given) in
    record { place = i.place; child = i.child; among = i.among; named = i.named; counted = i.counted; member = i.member })
