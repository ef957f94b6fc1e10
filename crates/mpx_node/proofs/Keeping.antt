-- What is kept of acknowledgements stays right.
use Rattle.std.proofs.Common.{◌≡◌, ℕ, true, List, [], ◌∷◌, max, fold, Result, Ok, Err, OnOk, OnErr, refl, sym, ap, ◌∙◌, subst}
use Rattle.std.proofs.Math.Nat.{max-zero}
use Rattle.std.specs.FinMap.{empty as no_entry}
use Rattle.mpx_name.specs.Name.{Name}
use Rattle.mpx_birth.specs.Births.{BirthView}
use Rattle.mpx_board.specs.declared.acks.Raised.{Raised}
use Rattle.mpx_board.specs.declared.board.Board.{Board}
use Rattle.mpx_board.specs.Boards.{Front, Look, empty, join, join_all, only}
use Rattle.mpx_board.specs.Contexts.{look_of}
use Rattle.mpx_board.specs.Looks.{look, parts_of}
use Rattle.mpx_board.specs.Parts.{AcksView, OfProcesses, PartsView}
use Rattle.mpx_board.specs.Raised.{Raises, stored, view_of_raised}
use Rattle.mpx_board.specs.Tidy.{is_tidy}
use Rattle.mpx_board.proofs.Acknowledging.{alone_tidy, look_alone, stored_gives, stored_tidy}
use Rattle.mpx_board.proofs.Order.{same_look}
use Rattle.mpx_format.specs.Kept.{AreKept}
use Rattle.mpx_format.specs.declared.kept.KeptAcks.{KeptAcks}
use Rattle.mpx_delta.proofs.Keeping.{still_kept}
use Rattle.mpx_node.specs.Keeping.{told}
use Rattle.mpx_node.specs.declared.node.Node.{Node}
use Rattle.mpx_node.specs.Nodes.{births_of}

-- boards on which the same is acknowledged have the same acknowledgements
acks_stay : (a b : PartsView) → is_tidy a ≡ true → is_tidy b ≡ true → (look_of a).acks ≡ (look_of b).acks → a.1 ≡ b.1
acks_stay a b s t same =
    ap (λ (p : PartsView). p.1) (same_look (no_entry, a.1) (no_entry, b.1) (alone_tidy no_entry a.1 a refl refl s) (alone_tidy no_entry b.1 b refl refl t)
    (look_alone no_entry a.1 a refl refl ∙ ap (λ acks. record empty { acks = acks }) same ∙ sym (look_alone no_entry b.1 b refl refl)))

-- nothing is acknowledged
abbrev pub SaysNone : Look → Type 0
SaysNone part = (q : ℕ) (n : Name) (p : ℕ) → part.acks q n p ≡ 0

module _ (node : Node) (b : Board) where
  kept_by : (look b).acks ≡ (look node.board).acks → AreKept node.kept.of.items (parts_of b).1
  kept_by same = subst (AreKept node.kept.of.items) (acks_stay (parts_of node.board) (parts_of b) node.board.tidy b.tidy (sym same)) (told _ _ node.kept_right)

  -- the board looks the same
  pub kept_same : look b ≡ look node.board → AreKept node.kept.of.items (parts_of b).1
  kept_same is = still_kept node.kept.of.items node.board b is (told _ _ node.kept_right)

  -- a part came to it in which nothing is acknowledged
  pub kept_joined : (part : Look) → look b ≡ join (look node.board) part → SaysNone part → AreKept node.kept.of.items (parts_of b).1
  kept_joined part is none = kept_by (λ i q n p. ((λ j. (is j).acks q n p) ∙ ap (max ((look node.board).acks q n p)) (none q n p) ∙ max-zero ((look node.board).acks q n p)) i)

  -- one or the other, by what a call answers
  pub kept_either : {A E : Type 0} (r : Result A E) (part : Look) → OnOk r (look b ≡ join (look node.board) part) → OnErr r (look b ≡ look node.board) → SaysNone part → AreKept node.kept.of.items (parts_of b).1
  kept_either (Ok x) part ok err none = kept_joined part ok none
  kept_either (Err e) part ok err none = kept_same err

-- births acknowledge nothing
births_say_none : (made : List (Name × BirthView)) (part : Look) (q : ℕ) (n : Name) (p : ℕ) → part.acks q n p ≡ 0 → (fold join part (births_of made)).acks q n p ≡ 0
births_say_none [] part q n p none = none
births_say_none (m ∷ made) part q n p none = births_say_none made _ q n p (max-zero (part.acks q n p) ∙ none)

-- and so does all that a harvest tells
pub harvest_says_none : (name : Name) (me number : ℕ) (made : List (Name × BirthView)) → SaysNone (join_all (only (Front name me number) ∷ births_of made))
harvest_says_none name me number made q n p = births_say_none made _ q n p refl

-- what storing changes is no longer kept
pub kept_said : (node : Node) (said : Raised) (forgot : List KeptAcks) (b : Board) (new : Look) → Raises said (look node.board) new → look b ≡ new
    → ((old acks : OfProcesses AcksView) → acks ≡ stored (view_of_raised said) old → AreKept node.kept.of.items old → AreKept forgot acks) → AreKept forgot (parts_of b).1
kept_said node said forgot b new made is goes =
    let old = parts_of node.board in
    let leads : PartsView = (old.0, stored (view_of_raised said) old.1) in
    let there : parts_of b ≡ leads = same_look (parts_of b) leads b.tidy (stored_tidy said old node.board.tidy new made leads refl) (is ∙ sym (stored_gives said old node.board.tidy new made leads refl)) in
    goes old.1 (parts_of b).1 (ap (λ (p : PartsView). p.1) there) (told _ _ node.kept_right)
