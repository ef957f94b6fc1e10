-- The laws of the formats of contexts, parts and frames.
use Rattle.std.proofs.Common.{◌≡◌, ℕ, zero, suc, Bool, true, false, ltb, List, [], length, Some, refl, sym, ap, subst, ◌∙◌, T, arith}
use Rattle.std.specs.Int.{w32}
use Rattle.std.specs.Ordering.{nat_cmp}
use Rattle.std.specs.Cmp.{nat_cmp_total}
use Rattle.std.specs.FinMap.{entries, entries_sorted, from_sorted, entries-from_sorted, same_entries_map, is_sorted}
use Rattle.std.proofs.lemmas.Bool.{ltb-true, and_parts}
use Rattle.join_core.specs.Flat.{FlatView, unknown, known, clash}
use Rattle.join_nest.specs.Cut.{is_from}
use Rattle.join_nest.specs.Lift.{LiftView, live, dead}
use Rattle.join_nest.specs.Trunc.{trunc_of}
use Rattle.mpx_name.specs.Order.{name_total}
use Rattle.mpx_board.specs.Parts.{CallView, PartsView}
use Rattle.mpx_format.specs.declared.defects.Defect.TheVariants.{BadMagic}
use Rattle.mpx_format.specs.declared.versions.Version.{Version}
use Rattle.mpx_format.specs.declared.versions.Version.TheVariants.{One, Two}
use Rattle.mpx_format.specs.Format.{Format, number, out_of_limits, not_canonical, many_fit}
use Rattle.mpx_format.specs.Rising.{entry, always}
use Rattle.mpx_format.specs.Fields.{call}
use Rattle.mpx_format.specs.Codes.{version_byte}
use Rattle.mpx_format.specs.Contexts.{code_of_flat, of_unknown, of_known, of_clash, flat_form, told, posted, call_posts, calls, trunc_from, of_trunc, held, progress, context, code_of_lift, of_live, of_dead, lift_form, lifted, says_something, parts, frame}
use Rattle.mpx_format.proofs.FormatLaws.{Exactly, number_laws, wide32, nothing_laws, mark_laws, both_laws, only_laws, through_laws, counted_laws, tagged_laws, some_is}
use Rattle.mpx_format.proofs.FieldLaws.{process_laws, call_laws, name_laws, name_count_laws, some_byte_laws, fronts_laws, all_acks_laws, keyed_laws}
use Rattle.mpx_format.proofs.CodeLaws.{version_laws}
use Rattle.mpx_format.proofs.BirthLaws.{birth_laws}
use Rattle.mpx_format.proofs.PostLaws.{post_laws}
use Rattle.mpx_format.proofs.Truncs.{cut_same, cut_whole}
use Rattle.mpx_format.proofs.Rows.{rising_sorted, rising_first, from_first}

module _ {A : Type 0} {f : Format A} (p : Exactly f) where
  unknown_forth : (v : FlatView A) (u : Unit {0}) → of_unknown v ≡ Some u → unknown ≡ v
  unknown_forth unknown u e = refl
  unknown_forth (known a) u e = absurd cc
  unknown_forth clash u e = absurd cc

  known_forth : (v : FlatView A) (a : A) → of_known v ≡ Some a → known a ≡ v
  known_forth unknown a e = absurd cc
  known_forth (known b) a e = ap known (sym (some_is b a e))
  known_forth clash a e = absurd cc

  clash_forth : (v : FlatView A) (u : Unit {0}) → of_clash v ≡ Some u → clash ≡ v
  clash_forth unknown u e = absurd cc
  clash_forth (known a) u e = absurd cc
  clash_forth clash u e = refl

  flat_laws : (t : ℕ) → Exactly (flat_form f t)
  flat_laws zero = through_laws (λ u. unknown) of_unknown nothing_laws (λ u fits. refl) unknown_forth
  flat_laws (suc zero) = through_laws known of_known p (λ a fits. refl) known_forth
  flat_laws (suc (suc n)) = through_laws (λ u. clash) of_clash nothing_laws (λ u fits. refl) clash_forth

  flat_tags : (t : ℕ) (v : FlatView A) → ltb t 3 ≡ true → (flat_form f t).fits v ≡ true → code_of_flat v ≡ t
  flat_tags zero unknown lt fits = refl
  flat_tags zero (known a) lt fits = absurd cc
  flat_tags zero clash lt fits = absurd cc
  flat_tags (suc zero) unknown lt fits = absurd cc
  flat_tags (suc zero) (known a) lt fits = refl
  flat_tags (suc zero) clash lt fits = absurd cc
  flat_tags (suc (suc n)) unknown lt fits = absurd cc
  flat_tags (suc (suc n)) (known a) lt fits = absurd cc
  flat_tags (suc (suc n)) clash lt fits = omega (arith, ltb-true _ _ lt)

  pub told_laws : Exactly (told f)
  told_laws = tagged_laws _ code_of_flat (λ t lt. flat_laws t) flat_tags

  live_forth : (v : LiftView A) (a : A) → of_live v ≡ Some a → live a ≡ v
  live_forth (live b) a e = ap live (sym (some_is b a e))
  live_forth dead a e = absurd cc

  dead_forth : (v : LiftView A) (u : Unit {0}) → of_dead v ≡ Some u → dead ≡ v
  dead_forth (live a) u e = absurd cc
  dead_forth dead u e = refl

  lift_laws : (t : ℕ) → Exactly (lift_form f t)
  lift_laws zero = through_laws live of_live p (λ a fits. refl) live_forth
  lift_laws (suc n) = through_laws (λ u. dead) of_dead nothing_laws (λ u fits. refl) dead_forth

  lift_tags : (t : ℕ) (v : LiftView A) → ltb t 2 ≡ true → (lift_form f t).fits v ≡ true → code_of_lift v ≡ t
  lift_tags zero (live a) lt fits = refl
  lift_tags zero dead lt fits = absurd cc
  lift_tags (suc n) (live a) lt fits = absurd cc
  lift_tags (suc n) dead lt fits = omega (arith, ltb-true _ _ lt)

true_from : (b : Bool) → T b → b ≡ true
true_from true h = refl
true_from false h = absurd h

pub posted_laws : (version : Version) → Exactly (posted version)
unfolding posted
posted_laws version = only_laws out_of_limits _ (told_laws (post_laws version))

pub call_posts_laws : (version : Version) → Exactly (call_posts version)
unfolding call_posts
call_posts_laws version = keyed_laws nat_cmp_total some_byte_laws process_laws (posted_laws version) always

pub calls_laws : (version : Version) (d : ℕ) → Exactly (calls version d)
unfolding calls
calls_laws version d = counted_laws (number_laws w32 wide32) (λ before. only_laws not_canonical _ (both_laws (only_laws not_canonical _ call_laws) (λ k fits. call_posts_laws version)))

-- calls that fit strictly rise from the front on
calls_from : (version : Version) (d : ℕ) (es : List (ℕ × CallView)) → (calls version d).fits es ≡ true → T (is_from d (entries (from_sorted {R = nat_cmp} es))) × T (is_sorted nat_cmp es)
unfolding calls
calls_from version d es fits =
    let each = (and_parts ((number w32).fits (length es)) (many_fit (entry nat_cmp (Some d) call (call_posts version) always) (length es) [] es) fits).1 in
    let sorted = rising_sorted nat_cmp_total call (call_posts version) always (Some d) (length es) es each in
    let from = from_first d es (true_from _ sorted) (rising_first nat_cmp_total call (call_posts version) always (Some d) (length es) es each) in
    (subst (λ l. T (is_from d l)) (sym (entries-from_sorted nat_cmp es sorted)) (subst T (sym from) tt), sorted)

pub held_laws : (version : Version) → Exactly (held version)
unfolding held
held_laws version = through_laws trunc_from of_trunc (both_laws (number_laws w32 wide32) (λ d fits. calls_laws version d))
    (λ a fits.
    let fact = calls_from version a.0 a.1 (and_parts ((number w32).fits a.0) ((calls version a.0).fits a.1) fits).1 in
    ap (λ (es : List (ℕ × CallView)). Some (a.0, es)) (ap entries (cut_whole a.0 (from_sorted a.1) fact.0) ∙ entries-from_sorted nat_cmp a.1 fact.1))
    (λ t a e. ap trunc_from (sym (some_is (t.dropped, entries t.calls) a e)) ∙ ap (trunc_of t.dropped) (same_entries_map (from_sorted (entries t.calls)) t.calls (entries-from_sorted nat_cmp (entries t.calls) (entries_sorted t.calls))) ∙ cut_same t)

pub context_laws : (version : Version) → Exactly (context version)
unfolding context progress
context_laws version = both_laws (told_laws birth_laws) (λ b fits. both_laws fronts_laws (λ f fits2. held_laws version))

pub lifted_laws : (version : Version) → Exactly (lifted version)
unfolding lifted
lifted_laws One = lift_laws (context_laws One) 0
lifted_laws Two = tagged_laws _ code_of_lift (λ t lt. lift_laws (context_laws Two) t) (lift_tags (context_laws Two))

pub parts_laws : (version : Version) → Exactly (parts version)
unfolding parts
parts_laws version = both_laws (keyed_laws name_total name_count_laws name_laws (lifted_laws version) says_something) (λ c fits. all_acks_laws)

pub frame_laws : Exactly frame
unfolding frame
frame_laws = mark_laws BadMagic 77 (mark_laws BadMagic 80 (mark_laws BadMagic 88 (mark_laws BadMagic 71 (both_laws version_laws (λ version fits. parts_laws version)))))

-- the parts of a board that has a frame fit
pub parts_fit : (version : Version) (v : PartsView) → frame.fits (version, v) ≡ true → (parts version).fits v ≡ true
unfolding frame
parts_fit version v fits = (and_parts (version_byte.fits version) ((parts version).fits v) fits).1
