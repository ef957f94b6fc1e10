-- What each part of a draft's check says of the whole.
use Rattle.std.proofs.Common.{◌≡◌, ℕ, ◌*◌, ◌<◌, ◌≤◌, ◌||◌, Bool, true, false, not, cond, List, [], ◌∷◌, inl, inr, length, Option, Some, None, Result, Ok, Err, nat_le, nat_lt, ◌==◌, subst, refl, sym, ap, ◌∙◌, eqb-true, arith}
use Rattle.std.specs.Prelude.{◌&&◌, OnOk}
use Rattle.std.specs.List.{list_all}
use Rattle.std.specs.Option.{option_map_or, option_or}
use Rattle.std.proofs.lemmas.Bool.{and_from, and_parts, cases_Bool, or_parts}
use Rattle.std.proofs.lemmas.Bool.Decides.{nat_tests}
use Rattle.mpx_num.specs.ItemList.{is_whole}
use Rattle.mpx_num.specs.declared.own.Operation.{Operation}
use Rattle.mpx_num.specs.Operations.{fits, is_for}
use Rattle.mpx_num.specs.Types.{item_len}
use Rattle.mpx_post.specs.declared.draft.At.{At}
use Rattle.mpx_post.specs.declared.draft.Draft.{Draft}
use Rattle.mpx_post.specs.declared.draft.PostError.{PostError}
use Rattle.mpx_post.specs.declared.draft.PostError.TheVariants.{Closed, ItemOutOfRange, NoTopology, TooManyItems}
use Rattle.mpx_kind.specs.declared.kinds.Makes.{Makes}
use Rattle.mpx_kind.specs.declared.kinds.Makes.TheVariants as M
use Rattle.mpx_kind.specs.declared.kinds.Number.{Number}
use Rattle.mpx_kind.specs.declared.kinds.Number.TheVariants.{Zero, One, OneAtRoot, Members, MembersAtRoot, Indegree, Outdegree}
use Rattle.mpx_kind.specs.declared.kinds.Seat.{Seat}
use Rattle.mpx_birth.specs.Births.{BirthView, rank_in}
use Rattle.mpx_kind.specs.Kinds.{fields_of, is_gathered, kind_of, makes_communicators, number_in}
use Rattle.mpx_post.specs.Posts.{Given, IsMaking, most_counts, most_items}
use Rattle.mpx_post.specs.Seats.{lacks_topology}
use Rattle.mpx_birth.specs.Topologies.{most_neighbours}
use Rattle.mpx_post.specs.Drafts.{Checks, checked, refusal_of, refusals, asked_first, are_edges, are_so_many, are_ranks, drafted_seat, edge_count, graph_of, has_making, is_misfilled, checked_as, checked_at, checked_in, stray_refusals, drafted_numbers, first_that_holds, given_by, has_colour_and_key, is_colour, is_count, is_key, is_misplaced, is_of, is_rank, making_of, most_calls, most_steps, numbers_refusal, place_refusals, ranks_in, received_counts, sent_counts, unless}
use Rattle.mpx_post.specs.Graphs.{most_edges}
use Rattle.mpx_post.proofs.Graphs.{are_edges-more, is_rank-more}
use Rattle.mpx_post.proofs.Limits.{from_not, right, right_more}
use Rattle.mpx_post.proofs.Makings.{IsMaking-from, are_ranks-more}
use Rattle.mpx_post.proofs.Refusals.{behind_or, none_after, none_told, items_refusal, items_refused, PlacePassed, place_passed, shape_first, shape_parts, shape_passed, shape_refused}

at_most_one : (at_root : Bool) → cond at_root 1 0 ≤ most_neighbours
at_most_one true = omega arith
at_most_one false = omega arith

at_most : (size : ℕ) → size ≤ 64 → (at_root : Bool) → cond at_root size 0 ≤ most_neighbours
at_most size l true = omega (arith, l)
at_most size l false = omega arith

-- not more counts than members or neighbours
few_in : (number : Number) (seat : Seat) → seat.size ≤ 64 → seat.indegree ≤ most_neighbours → seat.outdegree ≤ most_neighbours → number_in number seat ≤ most_neighbours
few_in Zero seat l i o = omega arith
few_in One seat l i o = omega arith
few_in OneAtRoot seat l i o = at_most_one seat.at_root
few_in Members seat l i o = omega (arith, l)
few_in MembersAtRoot seat l i o = at_most seat.size l seat.at_root
few_in Indegree seat l i o = i
few_in Outdegree seat l i o = o

-- a refusal, told
pub refusal_of-unless : {A E : Type 0} (o : Option E) (a : A) → refusal_of (unless o a) ≡ o
refusal_of-unless None a = refl
refusal_of-unless (Some e) a = refl

-- AN ANSWER BY THE NUMBERS, and by a refusal that comes after them

module _ (draft : Draft) where
  abbrev pub cut : Bool
  cut = not (is_whole draft.ty (drafted_numbers draft))

  abbrev pub strange : Bool
  strange = not (list_all (is_of draft.ty) (drafted_numbers draft))

  abbrev pub many : Bool
  many = nat_lt (most_items * item_len draft.ty) (length (drafted_numbers draft))

  abbrev pub counted : Bool
  counted = list_all is_count (sent_counts draft) && list_all is_count (received_counts draft)

  -- the items pass
  abbrev pub items_are_fine : Type 0
  items_are_fine = (cut ≡ false) × (strange ≡ false) × (many ≡ false)

by_counts : (c : Bool) (after : Option PostError) (e : PostError) (given : Given) → Checks (unless (cond c after (Some TooManyItems)) given) (Err e) → Checks (unless (option_or (cond (not c) (Some TooManyItems) None) after) given) (Err e)
by_counts true after e given h = h
by_counts false after e given h = h

module _ (draft : Draft) (after : Option PostError) where
  abbrev numbered : Result Given PostError
  numbered = unless (option_or (numbers_refusal draft) after) (given_by draft)

  pub refused_by_items : {A : Type 0} (x : A) (e : PostError) → Err e ≡ unless (items_refusal draft.ty (drafted_numbers draft)) x → Checks numbered (Err e)
  refused_by_items x e h = items_refused (cut draft) (strange draft) (many draft) (not (counted draft)) after x e (given_by draft) h

  behind_numbers : items_are_fine draft → counted draft ≡ true → numbered ≡ unless after (given_by draft)
  behind_numbers items counts = rw (items.0, items.1, items.2, counts) refl

  -- by what comes after the items
  pub refused_by_rest : (e : PostError) → items_are_fine draft → Checks (unless (cond (counted draft) after (Some TooManyItems)) (given_by draft)) (Err e) → Checks numbered (Err e)
  refused_by_rest e items h = rw (items.0, items.1, items.2) (by_counts (counted draft) after e (given_by draft) h)

  pub accepted : items_are_fine draft → counted draft ≡ true → after ≡ None → numbered ≡ Ok (given_by draft)
  accepted items counts h = behind_numbers items counts ∙ ap (λ o. unless o (given_by draft)) h

-- WHAT IS SAID OF A NEW COMMUNICATOR

module _ (makes : Makes) (draft : Draft) (h : has_making makes draft ≡ true) where
  making_parts : (are_ranks 64 (ranks_in makes draft) ≡ true) × (are_edges makes 64 (graph_of draft) ≡ true) × (nat_le (edge_count makes (graph_of draft)) most_edges ≡ true) × (has_colour_and_key makes draft ≡ true)
  making_parts =
      let group = and_parts _ _ h in
      let edges = and_parts _ _ group.1 in
      let few = and_parts _ _ edges.1 in
      (group.0, edges.0, few.0, few.1)

  pub group_is_fine : makes ≡ M.Group → are_ranks 64 draft.group ≡ true
  group_is_fine is = subst (λ (makes : Makes). are_ranks 64 (ranks_in makes draft) ≡ true) is making_parts.0

  pub edges_are_fine : are_edges makes 64 (graph_of draft) ≡ true
  edges_are_fine = making_parts.1

  pub edges_are_few : edge_count makes (graph_of draft) ≤ most_edges
  edges_are_few = let few = making_parts.2 in grind (arith, nat_tests, few)

  colour_and_key : makes ≡ M.Colour → (option_map_or is_colour draft.colour true && is_key draft.key) ≡ true
  colour_and_key is = subst (λ (makes : Makes). has_colour_and_key makes draft ≡ true) is making_parts.3

  pub colour_is_fine : makes ≡ M.Colour → option_map_or is_colour draft.colour true ≡ true
  colour_is_fine is = (and_parts (option_map_or is_colour draft.colour true) (is_key draft.key) (colour_and_key is)).0

  pub key_is_fine : makes ≡ M.Colour → is_key draft.key ≡ true
  key_is_fine is = (and_parts (option_map_or is_colour draft.colour true) (is_key draft.key) (colour_and_key is)).1

  pub making_is_fine : IsMaking makes (making_of makes draft.colour draft.key draft.group (graph_of draft))
  making_is_fine = IsMaking-from draft.colour draft.key draft.group (graph_of draft) makes colour_is_fine group_is_fine edges_are_fine edges_are_few

-- A WHOLE CHECK

module _ (seat : Seat) (at : At) (draft : Draft) where
  abbrev rootless : Bool
  rootless = (fields_of (kind_of draft.call)).root && not (is_rank seat.size draft.root)

  abbrev as_many_sent : Bool
  as_many_sent = are_so_many (sent_counts draft) (fields_of (kind_of draft.call)).scounts seat

  abbrev as_many_received : Bool
  as_many_received = are_so_many (received_counts draft) (fields_of (kind_of draft.call)).rcounts seat

  abbrev misfilled : Bool
  misfilled = is_misfilled seat draft

  abbrev pub place_is_fine : Type 0
  place_is_fine = first_that_holds (place_refusals seat.size at draft) ≡ None

  abbrev misplaced : Bool
  misplaced = is_misplaced at.gathering (is_gathered (kind_of draft.call))

  abbrev ranked : Bool
  ranked = are_ranks seat.size (ranks_in (fields_of (kind_of draft.call)).makes draft)

  abbrev joined : Bool
  joined = are_edges (fields_of (kind_of draft.call)).makes seat.size (graph_of draft)

  abbrev crowded : Bool
  crowded = nat_lt most_edges (edge_count (fields_of (kind_of draft.call)).makes (graph_of draft))

  abbrev uncoloured : Bool
  uncoloured = not (has_colour_and_key (fields_of (kind_of draft.call)).makes draft)

  place_parts : place_is_fine → PlacePassed (at.call == most_calls) (makes_communicators (kind_of draft.call) && nat_le most_steps at.depth) (misplaced || not ranked) (not joined) crowded uncoloured
  place_parts h = place_passed (at.call == most_calls) (makes_communicators (kind_of draft.call) && nat_le most_steps at.depth) (misplaced || not ranked) (not joined) crowded uncoloured h

  pub making_passed : seat.size ≤ 64 → place_is_fine → has_making (fields_of (kind_of draft.call)).makes draft ≡ true
  making_passed l h =
      let makes : Makes = (fields_of (kind_of draft.call)).makes in
      let parts = place_parts h in
      let uncrowded = parts.few in
      let group : are_ranks 64 (ranks_in makes draft) ≡ true = are_ranks-more seat.size (ranks_in makes draft) l (from_not ranked (or_parts misplaced (not ranked) parts.group).1) in
      let edges : are_edges makes 64 (graph_of draft) ≡ true = are_edges-more makes seat.size (graph_of draft) l (from_not joined parts.edges) in
      let few : nat_le (edge_count makes (graph_of draft)) most_edges ≡ true = grind (arith, nat_tests, uncrowded) in
      and_from _ _ group (and_from _ _ edges (and_from _ _ few (from_not (has_colour_and_key makes draft) parts.colour_and_key)))

  -- where its operation is for its type or not
  module _ (for_type : Bool) where
    abbrev opless : Bool
    opless = (fields_of (kind_of draft.call)).op && not for_type

    abbrev pub shape_is_fine : Type 0
    shape_is_fine = first_that_holds (asked_first for_type seat draft misfilled) ≡ None

    abbrev answer : Result Given PostError
    answer = checked_in for_type seat at draft

    pub refused_by_shape : (e : PostError) → first_that_holds (asked_first for_type seat draft misfilled) ≡ Some e → Checks answer (Err e)
    refused_by_shape e h = shape_refused rootless opless (not (as_many_sent && as_many_received)) misfilled (cut draft) (strange draft) (many draft) (not (counted draft)) (place_refusals seat.size at draft) e (given_by draft) h

    -- a check is the answer by the numbers and by the place
    pub behind_shape : shape_is_fine → answer ≡ unless (option_or (numbers_refusal draft) (first_that_holds (place_refusals seat.size at draft))) (given_by draft)
    behind_shape h = ap (λ o. unless o (given_by draft)) (shape_passed rootless opless (not (as_many_sent && as_many_received)) misfilled (cut draft) (strange draft) (many draft) (not (counted draft)) (place_refusals seat.size at draft) h ∙ behind_or (cut draft) (strange draft) (many draft) (not (counted draft)) (place_refusals seat.size at draft))

    pub shape_told : (e : PostError) → first_that_holds (asked_first for_type seat draft misfilled) ≡ Some e → refusal_of answer ≡ Some e
    shape_told e h = refusal_of-unless (first_that_holds (refusals for_type seat at draft)) (given_by draft) ∙ shape_first rootless opless (not (as_many_sent && as_many_received)) misfilled (cut draft) (strange draft) (many draft) (not (counted draft)) (place_refusals seat.size at draft) e h

    pub told_behind_shape : shape_is_fine → refusal_of answer ≡ option_or (numbers_refusal draft) (first_that_holds (place_refusals seat.size at draft))
    told_behind_shape h = ap refusal_of (behind_shape h) ∙ refusal_of-unless (option_or (numbers_refusal draft) (first_that_holds (place_refusals seat.size at draft))) (given_by draft)

    pub root_passed : seat.size ≤ 64 → shape_is_fine → cond (fields_of (kind_of draft.call)).root (is_rank 64 draft.root) true ≡ true
    root_passed l h = right_more _ _ _ (is_rank-more seat.size draft.root l) (right (fields_of (kind_of draft.call)).root (is_rank seat.size draft.root) (shape_parts rootless opless (not (as_many_sent && as_many_received)) misfilled h).0)

    pub op_passed : (for_type ≡ true → fits draft.op draft.ty ≡ true) → shape_is_fine → cond (fields_of (kind_of draft.call)).op (fits draft.op draft.ty) true ≡ true
    op_passed stands h = right_more _ _ _ stands (right (fields_of (kind_of draft.call)).op for_type (shape_parts rootless opless (not (as_many_sent && as_many_received)) misfilled h).1)

    as_many : shape_is_fine → (as_many_sent ≡ true) × (as_many_received ≡ true)
    as_many h = and_parts _ _ (from_not (as_many_sent && as_many_received) (shape_parts rootless opless (not (as_many_sent && as_many_received)) misfilled h).2)

    pub few_sent : seat.size ≤ 64 → seat.indegree ≤ most_neighbours → seat.outdegree ≤ most_neighbours → shape_is_fine → length (sent_counts draft) ≤ most_counts
    few_sent l i o h = omega (arith, eqb-true _ _ (as_many h).0, few_in (fields_of (kind_of draft.call)).scounts seat l i o)

    pub few_received : seat.size ≤ 64 → seat.indegree ≤ most_neighbours → seat.outdegree ≤ most_neighbours → shape_is_fine → length (received_counts draft) ≤ most_counts
    few_received l i o h = omega (arith, eqb-true _ _ (as_many h).1, few_in (fields_of (kind_of draft.call)).rcounts seat l i o)

    -- an accepted draft passes what is asked last
    pub accepted_place : (given : Given) → answer ≡ Ok given → place_is_fine
    accepted_place given h = none_after rootless opless (not (as_many_sent && as_many_received)) misfilled (cut draft) (strange draft) (many draft) (not (counted draft)) (place_refusals seat.size at draft) (none_told (first_that_holds (refusals for_type seat at draft)) (given_by draft) given h)

    room_below : (given : Given) → answer ≡ Ok given → makes_communicators (kind_of draft.call) ≡ true → at.depth < 8
    room_below given h makes =
        let shallow = (place_parts (accepted_place given h)).depth in
        let deep : nat_le most_steps at.depth ≡ false = rw makes at shallow in
        grind (arith, nat_tests, deep)

    call_below : (given : Given) → answer ≡ Ok given → (at.call == most_calls) ≡ false
    call_below given h = (place_parts (accepted_place given h)).calls

pub never : (r t : Bool) (x y : Given) → unless (first_that_holds ((r, ItemOutOfRange) ∷ (t, TooManyItems) ∷ (true, NoTopology) ∷ [])) x ≡ Ok y → ⊥
never true t x y h = cc
never false true x y h = cc
never false false x y h = cc

-- a call along edges where there are none isn't accepted
stray : (draft : Draft) (given : Given) → unless (first_that_holds (stray_refusals draft)) (given_by draft) ≡ Ok given → ⊥
stray draft given h = never (not (list_all (is_of draft.ty) (drafted_numbers draft))) _ (given_by draft) given h

-- nothing is accepted where its process has posted a free
pub closed_first : (closed : Bool) (answer : Result Given PostError) (given : Given) → cond closed (Err Closed) answer ≡ Ok given → (closed ≡ false) × (answer ≡ Ok given)
closed_first true answer given h = cc
closed_first false answer given h = (refl, h)

-- what an accepted draft of a member passes, in its seat
accepted_in : (ops : List Operation) (found : Option ℕ) (birth : BirthView) (at : At) (draft : Draft) (given : Given) → checked_at ops found birth at draft ≡ Ok given → (seat : Seat) × (checked_in (is_for ops draft.op draft.ty) seat at draft ≡ Ok given)
accepted_in ops None birth at draft given h = cc
accepted_in ops (Some rank) birth at draft given h =
    let passed : checked_as ops rank birth at draft ≡ Ok given = (closed_first at.closed (checked_as ops rank birth at draft) given h).1 in
    elim (cases_Bool (lacks_topology birth.topology (kind_of draft.call))) [
      | inl lacks ↦ absurd (stray draft given (rw lacks at passed))
      | inr has ↦ (drafted_seat birth rank draft, rw has at passed)
    ]

-- an accepted call that makes communicators has room for one more step
pub room : (ops : List Operation) (birth : BirthView) (me : ℕ) (at : At) (draft : Draft) (given : Given) → checked ops birth me at draft ≡ Ok given → makes_communicators (kind_of draft.call) ≡ true → at.depth < 8
unfolding checked
room ops birth me at draft given h makes = let found = accepted_in ops (rank_in me birth.members) birth at draft given h in room_below found.0 at draft (is_for ops draft.op draft.ty) given found.1 makes

-- an accepted call is never the one past the last
pub call_room : (ops : List Operation) (birth : BirthView) (me : ℕ) (at : At) (draft : Draft) (given : Given) → checked ops birth me at draft ≡ Ok given → (at.call == most_calls) ≡ false
unfolding checked
call_room ops birth me at draft given h = let found = accepted_in ops (rank_in me birth.members) birth at draft given h in call_below found.0 at draft (is_for ops draft.op draft.ty) given found.1

-- behind its own free a member posts nothing
pub closed_there : (ops : List Operation) (birth : BirthView) (me rank : ℕ) (at : At) (draft : Draft) → rank_in me birth.members ≡ Some rank → at.closed ≡ true → checked ops birth me at draft ≡ Err Closed
unfolding checked
closed_there ops birth me rank at draft member closed = rw (member, closed) refl

-- A MADE POST

-- what was answered is the post that the check comes to
pub checks_post : (r : Result Given PostError) (given : Given) → Checks r (Ok given) → r ≡ Ok given
checks_post (Err refusal) given answered = cc answered
checks_post (Ok expected) given answered = ap Ok (sym answered)

-- where a post was made, there is room for one more call
pub room_of_post : (ops : List Operation) (birth : BirthView) (me : ℕ) (at : At) (draft : Draft) (answer : Result Given PostError) → at.call ≤ most_calls → Checks (checked ops birth me at draft) answer → OnOk answer (at.call < most_calls)
room_of_post ops birth me at draft (Ok given) l answered = let room : (at.call == most_calls) ≡ false = call_room ops birth me at draft given (checks_post (checked ops birth me at draft) given answered) in grind (arith, nat_tests)
room_of_post ops birth me at draft (Err e) l answered = tt

-- the same of a call that stands there
pub room_of_call : (ops : List Operation) (birth : BirthView) (me : ℕ) (here there : At) (draft : Draft) (answer : Result Given PostError) → here ≡ there → there.call ≤ most_calls → Checks (checked ops birth me here draft) answer → OnOk answer (there.call < most_calls)
room_of_call ops birth me here there draft answer e l answered = room_of_post ops birth me there draft answer l (subst (λ (a : At). Checks (checked ops birth me a draft) answer) e answered)
