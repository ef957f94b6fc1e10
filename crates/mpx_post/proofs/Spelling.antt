-- What the parts of a bare draft say of its spelling.
use Rattle.std.proofs.Common.{◌≡◌, ℕ, ◌*◌, Bool, true, false, not, cond, ◌||◌, length, Option, Some, None, Ok, Err, nat_le, nat_lt, refl, sym, ◌∙◌, arith}
use Rattle.std.specs.Prelude.{◌&&◌}
use Rattle.std.specs.List.{list_all}
use Rattle.std.specs.Option.{option_or}
use Rattle.std.proofs.lemmas.Bool.{and_from, and_parts, or_parts}
use Rattle.std.proofs.lemmas.Bool.Decides.{nat_tests}
use Rattle.mpx_num.specs.ItemList.{is_whole}
use Rattle.mpx_num.specs.Operations.{fits}
use Rattle.mpx_num.specs.Types.{item_len}
use Rattle.mpx_post.specs.declared.draft.Draft.{Draft}
use Rattle.mpx_post.specs.declared.draft.PostError.{PostError}
use Rattle.mpx_post.specs.declared.draft.PostError.TheVariants.{OutOfMemory}
use Rattle.mpx_post.specs.Drafts.{Checks, are_counts, are_items, drafted_numbers, given_by, has_making, has_spelling, is_count, is_of, is_rank, numbers_refusal, received_counts, sent_counts, unless}
use Rattle.mpx_kind.specs.Kinds.{fields_of, kind_of}
use Rattle.mpx_post.specs.Posts.{Given, most_counts, most_items}
use Rattle.mpx_post.proofs.Limits.{from_not, not_wrong, right}
use Rattle.mpx_post.proofs.Refusals.{three}

-- every part passes
pub record Spelled (draft : Draft) : Type 0 where
  pub root : cond (fields_of (kind_of draft.call)).root (is_rank 64 draft.root) true ≡ true
  pub op : cond (fields_of (kind_of draft.call)).op (fits draft.op draft.ty) true ≡ true
  pub whole : is_whole draft.ty (drafted_numbers draft) ≡ true
  pub in_range : list_all (is_of draft.ty) (drafted_numbers draft) ≡ true
  pub few : nat_le (length (drafted_numbers draft)) (most_items * item_len draft.ty) ≡ true
  pub sent : list_all is_count (sent_counts draft) ≡ true
  pub few_sent : nat_le (length (sent_counts draft)) most_counts ≡ true
  pub received : list_all is_count (received_counts draft) ≡ true
  pub few_received : nat_le (length (received_counts draft)) most_counts ≡ true
  pub making : has_making (fields_of (kind_of draft.call)).makes draft ≡ true

not_true : (b : Bool) → (b ≡ true → ⊥) → b ≡ false
not_true true never = absurd (never refl)
not_true false never = refl

within : (n most : ℕ) → nat_lt most n ≡ false → nat_le n most ≡ true
within n most h = grind (arith, nat_tests, h)

not_beyond : (n most : ℕ) → nat_le n most ≡ true → nat_lt most n ≡ false
not_beyond n most h = grind (arith, nat_tests, h)

none_of_three : (w r t : Bool) → three w r t ≡ None → (w ≡ false) × (r ≡ false) × (t ≡ false)
none_of_three true r t h = cc
none_of_three false true t h = cc
none_of_three false false true h = cc
none_of_three false false false h = (refl, refl, refl)

answered : (refusal : Option PostError) (given post : Given) → Checks (unless (option_or refusal None) given) (Ok post) → (refusal ≡ None) × (post ≡ given)
answered None given post h = (refl, h)
answered (Some e) given post h = cc

-- none of the three is want of memory, which comes only where none of them holds
wanted : (w r t : Bool) (given : Given) → Checks (unless (option_or (three w r t) None) given) (Err OutOfMemory) → three w r t ≡ None
wanted true r t given h = cc
wanted false true t given h = cc
wanted false false true given h = cc
wanted false false false given h = refl

module _ (draft : Draft) where
  spelled_parts : has_spelling draft ≡ true → Spelled draft
  unfolding has_spelling
  spelled_parts h =
      let root = and_parts _ _ h in
      let op = and_parts _ _ root.1 in
      let items = and_parts (are_items draft.ty (drafted_numbers draft)) _ op.1 in
      let whole = and_parts _ _ items.0 in
      let in_range = and_parts _ _ whole.1 in
      let sent = and_parts (are_counts (sent_counts draft)) _ items.1 in
      let sent_parts = and_parts _ _ sent.0 in
      let received = and_parts (are_counts (received_counts draft)) _ sent.1 in
      let received_parts = and_parts _ _ received.0 in
      record {
        root = root.0;
        op = op.0;
        whole = whole.0;
        in_range = in_range.0;
        few = in_range.1;
        sent = sent_parts.0;
        few_sent = sent_parts.1;
        received = received_parts.0;
        few_received = received_parts.1;
        making = received.1;
      }

  pub unspelled : (Spelled draft → ⊥) → has_spelling draft ≡ false
  unspelled never = not_true (has_spelling draft) (λ h. never (spelled_parts h))

  -- numbers that are refused have no spelling
  numbers_pass : Spelled draft → numbers_refusal draft ≡ None
  numbers_pass spelled = rw (spelled.whole, spelled.in_range, not_beyond _ _ spelled.few, spelled.sent, spelled.received) refl

  pub unspelled_numbers : (e : PostError) → (e ≡ OutOfMemory → ⊥) → Checks (unless (option_or (numbers_refusal draft) None) (given_by draft)) (Err e) → has_spelling draft ≡ false
  unspelled_numbers e other h = unspelled (λ spelled. other (rw (numbers_pass spelled) at h))

  -- what is asked but for the numbers
  abbrev pub is_stray : Bool
  is_stray = ((((fields_of (kind_of draft.call)).root && not (is_rank 64 draft.root)) || ((fields_of (kind_of draft.call)).op && not (fits draft.op draft.ty))) || not (nat_le (length (sent_counts draft)) most_counts && nat_le (length (received_counts draft)) most_counts)) || not (has_making (fields_of (kind_of draft.call)).makes draft)

  none_stray : Spelled draft → is_stray ≡ false
  none_stray spelled =
      let root = not_wrong (fields_of (kind_of draft.call)).root (is_rank 64 draft.root) spelled.root in
      let op = not_wrong (fields_of (kind_of draft.call)).op (fits draft.op draft.ty) spelled.op in
      rw (root, op, spelled.few_sent, spelled.few_received, spelled.making) refl

  pub unspelled_stray : is_stray ≡ true → has_spelling draft ≡ false
  unspelled_stray h = unspelled (λ spelled. let no = sym h ∙ none_stray spelled in cc)

  spelled_from : is_stray ≡ false → numbers_refusal draft ≡ None → has_spelling draft ≡ true
  unfolding has_spelling
  spelled_from fine h =
      let kept = or_parts _ _ fine in
      let counted = or_parts _ _ kept.0 in
      let shape = or_parts _ _ counted.0 in
      let root : cond (fields_of (kind_of draft.call)).root (is_rank 64 draft.root) true ≡ true = right _ _ shape.0 in
      let op : cond (fields_of (kind_of draft.call)).op (fits draft.op draft.ty) true ≡ true = right _ _ shape.1 in
      let lengths = and_parts (nat_le (length (sent_counts draft)) most_counts) _ (from_not _ counted.1) in
      let parts = none_of_three _ _ _ h in
      let numbers = or_parts _ _ parts.2 in
      let counts = and_parts (list_all is_count (sent_counts draft)) _ (from_not _ numbers.1) in
      let items : are_items draft.ty (drafted_numbers draft) ≡ true = and_from _ _ (from_not _ parts.0) (and_from _ _ (from_not _ parts.1) (within _ _ numbers.0)) in
      and_from _ _ root (and_from _ _ op (and_from _ _ items (and_from _ _ (and_from _ _ counts.0 lengths.0) (and_from _ _ (and_from _ _ counts.1 lengths.1) (from_not _ kept.1)))))

  pub spelled : is_stray ≡ false → (post : Given) → Checks (unless (option_or (numbers_refusal draft) None) (given_by draft)) (Ok post) → (has_spelling draft ≡ true) × (post ≡ given_by draft)
  spelled fine post h = let parts = answered (numbers_refusal draft) (given_by draft) post h in (spelled_from fine parts.0, parts.1)

  pub spelled_unmade : is_stray ≡ false → Checks (unless (option_or (numbers_refusal draft) None) (given_by draft)) (Err OutOfMemory) → has_spelling draft ≡ true
  spelled_unmade fine h = spelled_from fine (wanted _ _ _ (given_by draft) h)
