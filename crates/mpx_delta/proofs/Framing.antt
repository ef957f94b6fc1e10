-- Frames of boards, one for each.
use Rattle.std.proofs.Common.{◌≡◌, ◌≤◌, ◌<◌, ◌+◌, ℕ, suc, Bool, true, false, cond, List, [], ◌∷◌, ◌++◌, length, get_or, take, refl, sym, ap, ◌∙◌, subst, arith}
use Rattle.std.specs.Prelude.{All, nat_lt}
use Rattle.std.proofs.lemmas.Bool.Decides.{nat_tests}
use Rattle.join_core.specs.Flat.{unknown}
use Rattle.mpx_name.specs.Name.{Name}
use Rattle.mpx_name.specs.Order.{name_total, name_exact}
use Rattle.std.proofs.lemmas.List.{take_more}
use Rattle.std.proofs.lemmas.List.Elements.{All-weaker}
use Rattle.mpx_board.specs.declared.acks.Raised.{Raised}
use Rattle.mpx_board.specs.declared.board.Board.{Board}
use Rattle.mpx_board.specs.Boards.{IsBoardBelow, Look, join, own_acks}
use Rattle.mpx_board.specs.Contexts.{look_of, number_acked}
use Rattle.mpx_board.specs.Looks.{look, parts_of}
use Rattle.mpx_board.specs.Parts.{OfNames, AcksView, LiftedView, PartsView}
use Rattle.mpx_board.specs.Raised.{StoringLeads}
use Rattle.mpx_board.specs.Tidy.{is_bare}
use Rattle.mpx_board.proofs.Acknowledging.{look_replaced}
use Rattle.mpx_board.proofs.Entries.{bare_gets}
use Rattle.mpx_board.proofs.Exchanging.{leads_raises}
use Rattle.mpx_board.proofs.Facts.{join_is_least}
use Rattle.mpx_format.specs.declared.versions.Version.TheVariants.{Two}
use Rattle.mpx_format.specs.Contexts.{frame}
use Rattle.mpx_format.specs.Decoding.{Spells, most_bytes}
use Rattle.mpx_format.specs.Encoding.{is_too_long, length_told}
use Rattle.mpx_digest.specs.Digest.{IsDigest, Numbers, numbers_acked}
use Rattle.mpx_digest.specs.Keep.{keep}
use Rattle.mpx_delta.specs.Facts.{OnlyFactsOf}
use Rattle.mpx_delta.specs.Digests.{common_on, without}
use Rattle.mpx_delta.specs.Lacking.{AreFramesOf, AreLacking, AreSpelled}
use Rattle.mpx_delta.specs.Lean.{lean_context}
use Rattle.mpx_delta.proofs.Leaning.{lean_said, without_only}
use Rattle.mpx_delta.proofs.Saying.{acknowledged}

spelled_end : (frames : List (List ℕ)) (boards : List Board) (bytes : List ℕ) (board : Board) → Spells Two bytes (parts_of board) → AreSpelled frames boards → AreSpelled (frames ++ bytes ∷ []) (boards ++ board ∷ [])
spelled_end [] [] bytes board s h = (s, tt)
spelled_end [] (b ∷ boards) bytes board s h = absurd h
spelled_end (f ∷ frames) [] bytes board s h = absurd h
spelled_end (f ∷ frames) (b ∷ boards) bytes board s h = (h.0, spelled_end frames boards bytes board s h.1)

-- one frame more
pub spelled_more : (frames : List (List ℕ)) (boards : List Board) (i : ℕ) (bytes : List ℕ) (board : Board) → i < length boards → board ≡ get_or boards i board → Spells Two bytes (parts_of board) → AreSpelled frames (take i boards) → AreSpelled (frames ++ bytes ∷ []) (take (i + 1) boards)
spelled_more frames boards i bytes board lt is s h =
    subst (AreSpelled (frames ++ bytes ∷ [])) (sym (take_more boards i board lt ∙ ap (λ x. take i boards ++ x ∷ []) (sym is))) (spelled_end frames (take i boards) bytes board s h)

-- a greater limit lets them be longer
pub fit_more : (limit most : ℕ) (boards : List Board) → limit ≤ most → All (λ board. length_told (parts_of board) ≤ limit) boards → All (λ board. length_told (parts_of board) ≤ most) boards
fit_more limit most boards le all = All-weaker (λ board. length_told (parts_of board) ≤ limit) (λ board. length_told (parts_of board) ≤ most) (λ board l. longer (length_told (parts_of board)) limit most l le) boards all where
  longer : (a b c : ℕ) → a ≤ b → b ≤ c → a ≤ c
  longer a b c l m = omega (arith, l, m)

-- what is told of a board that isn't too long is how long its frame is
pub told_length : (bytes : List ℕ) (v : PartsView) → Spells Two bytes v → (is_too_long v ≡ true → ⊥) → length_told v ≡ length bytes
told_length bytes v s not_long = short (is_too_long v) (length (frame.spelling (Two, v))) not_long ∙ sym (ap length s.bytes_are) where
  short : (long : Bool) (n : ℕ) → (long ≡ true → ⊥) → cond long (suc most_bytes) n ≡ n
  short true n f = absurd (f refl)
  short false n f = refl

-- the lean contexts with the board's own acknowledgements
pub lean_own : (d : AcksView) (v : PartsView) (first : OfNames LiftedView) → first ≡ keep (lean_context d) v.0 → look_of (first, v.1) ≡ without (numbers_acked d) (look_of v)
lean_own d v first is = look_replaced (first, v.1) v ∙ lean_said d v first v.1 (look_of v) is

-- without the posts below no number it is the board
pub nothing_left_out : (d : AcksView) (b : Look) → is_bare d ≡ true → without (numbers_acked d) b ≡ b
nothing_left_out d b bare i = record {
  contexts = λ name. record {
    birth = (b.contexts name).birth;
    fronts = (b.contexts name).fronts;
    dropped = (b.contexts name).dropped;
    posts = λ k p. stays name k p i;
    dead = (b.contexts name).dead;
  };
  acks = b.acks;
} where
  below_none : (k : ℕ) → nat_lt k 0 ≡ false
  below_none k = grind (arith, nat_tests)

  stays : (name : Name) (k p : ℕ) → cond (nat_lt k (numbers_acked d name p)) unknown ((b.contexts name).posts k p) ≡ (b.contexts name).posts k p
  stays name k p =
      let none : numbers_acked d name p ≡ 0 = ap (number_acked p) (bare_gets name_total name_exact d bare name) in
      rw (none, below_none k) refl

-- what leads back from a board leads back from one that is the same
pub led_back : (before : Raised) (old mid lent back : PartsView) → StoringLeads before mid old → lent ≡ mid → ((new : PartsView) → StoringLeads before lent new → back ≡ new) → back ≡ old
led_back before old mid lent back l same gives = gives old (subst (λ v. StoringLeads before v old) (sym same) l)

pub leads_between : (said : Raised) (old mid lent back : PartsView) → back ≡ old → lent ≡ mid → StoringLeads said back lent → StoringLeads said old mid
leads_between said old mid lent back was same l = subst (λ v. StoringLeads said v mid) was (subst (StoringLeads said back) same l)

-- the frames of what others lack of the board that says more
pub frames_lack : (me processes limit : ℕ) (numbers : Numbers) (old new : PartsView) (before said : Raised) (frames : List (List ℕ)) → IsDigest numbers (look_of old) → look_of new ≡ join (look_of old) (own_acks me numbers)
    → StoringLeads before new old → StoringLeads said old new → AreFramesOf limit (without (common_on processes (look_of new)) (look_of new)) frames → AreLacking me processes limit (look_of old) said frames
frames_lack me processes limit numbers old new before said frames digest is back leads made =
    record {
      parts = made.parts;
      lacking = record {
        after = look_of new;
        raises = leads_raises said old new back.neat leads (subst (IsBoardBelow (look_of old)) (sym is) (join_is_least (look_of old) (own_acks me numbers)).left);
        own = acknowledged me numbers (look_of old) (look_of new) digest is;
        facts = All-weaker (λ part. OnlyFactsOf (look part) (without (common_on processes (look_of new)) (look_of new))) (λ part. OnlyFactsOf (look part) (look_of new)) (λ part only f has. without_only (common_on processes (look_of new)) (look_of new) f (only f has)) made.parts made.facts;
        fit = made.fit;
        join = made.join;
        few = made.few;
      };
      spelled = made.spelled;
    }
