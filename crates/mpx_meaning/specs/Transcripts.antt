-- The text of a transcript.
use Rattle.std.specs.Prelude.{ℕ, zero, suc, pos, Bool, true, false, List, [], ◌∷◌, ◌++◌, String, Vec, codes, map, string_bytes}
use Rattle.mpx_num.specs.Text.{number_text}
use Rattle.mpx_post.specs.RefusalNames.{refusal_name}
use Rattle.mpx_match.specs.declared.faults.FaultKind.{FaultKind}
use Rattle.mpx_match.specs.declared.faults.FaultKind.TheVariants as F
use Rattle.mpx_value.specs.declared.outcomes.Outcome.{Outcome}
use Rattle.mpx_value.specs.declared.outcomes.Outcome.TheVariants as O
use Rattle.mpx_birth.specs.declared.edges.Neighbour.{Neighbour}
use Rattle.mpx_group.specs.declared.ranks.Rank.{Rank}
use Rattle.mpx_group.specs.declared.ranks.Rank.TheVariants.{At, ProcNull, Undefined}
use Rattle.mpx_meaning.specs.declared.asking.Relation.{Relation}
use Rattle.mpx_meaning.specs.declared.asking.Relation.TheVariants as C
use Rattle.mpx_meaning.specs.Ranks.{Line, Compared, Idle, Near, Refused, StrayRank, Told, Translated}

-- lines as text
abbrev pub as_text : {Z : Type 0} → Vec (String Z) Z → List (List ℕ)
as_text lines = map string_bytes lines.items

-- the text of each with a space before it
abbrev pub spaced : {A : Type 0} → (A → List ℕ) → List A → List ℕ
spaced text [] = []
spaced text (x ∷ xs) = (32 ∷ text x) ++ spaced text xs

-- their texts with one space between them; `empty` where there are none
abbrev pub listed : {A : Type 0} → (A → List ℕ) → List A → List ℕ
listed text [] = codes "empty"
listed text (x ∷ xs) = text x ++ spaced text xs

abbrev pub fault_name : FaultKind → List ℕ
fault_name F.Kind = codes "Kind"
fault_name F.Mode = codes "Mode"
fault_name F.Root = codes "Root"
fault_name F.Op = codes "Op"
fault_name F.ItemType = codes "ItemType"
fault_name F.Amount = codes "Amount"
fault_name F.Weights = codes "Weights"
fault_name F.Edges = codes "Edges"
fault_name F.Groups = codes "Groups"

abbrev pub outcome_text : Outcome → List ℕ
outcome_text O.Nothing = codes "ok"
outcome_text O.Absent = codes "none"
outcome_text (O.Items items) = listed number_text items.nums
outcome_text (O.NewComm name size rank) = codes "comm " ++ number_text (pos size) ++ 32 ∷ number_text (pos rank)
outcome_text O.Null = codes "null"
outcome_text (O.Fault fault) = codes "fault " ++ fault_name fault.what ++ codes " at " ++ number_text (pos fault.rank)

-- a neighbour's rank, and behind `:` (58) its weight, where edges have weights
abbrev pub neighbour_text : (weighted : Bool) → Neighbour → List ℕ
neighbour_text false neighbour = number_text (pos neighbour.rank)
neighbour_text true neighbour = number_text (pos neighbour.rank) ++ 58 ∷ number_text (pos neighbour.weight)

abbrev pub relation_text : Relation → List ℕ
relation_text C.Ident = codes "ident"
relation_text C.Congruent = codes "congruent"
relation_text C.Similar = codes "similar"
relation_text C.Unequal = codes "unequal"

abbrev pub translated_text : Rank → List ℕ
translated_text (At rank) = number_text (pos rank)
translated_text ProcNull = codes "null"
translated_text Undefined = codes "undefined"

-- the place of an outcome isn't printed
abbrev pub line_text : Line → List ℕ
line_text (Told name call outcome) = outcome_text outcome
line_text (Refused refusal) = codes "refused " ++ refusal_name refusal
line_text Idle = codes "idle"
line_text (Near weighted neighbours) = listed (neighbour_text weighted) neighbours
line_text (Compared relation) = relation_text relation
line_text (Translated ranks) = listed translated_text ranks
line_text StrayRank = codes "refused RankOutOfRange"

-- each line of a rank as `RANK: LINE`
abbrev pub rank_text : ℕ → List (List ℕ) → List ℕ
rank_text p [] = []
rank_text p (l ∷ ls) = number_text (pos p) ++ codes ": " ++ l ++ 10 ∷ rank_text p ls

-- the lines of the first n ranks, rank by rank
abbrev pub text_upto : ((rank : ℕ) → List (List ℕ)) → ℕ → List ℕ
text_upto lines zero = []
text_upto lines (suc n) = text_upto lines n ++ rank_text n (lines n)
