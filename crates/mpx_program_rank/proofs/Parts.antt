-- Calls in parts, one more after the others.
use Rattle.std.proofs.Common.{◌≡◌, ℕ, ℤ, ◌+◌, ◌*◌, ◌<◌, ◌≤◌, ◌++◌, ◌∷◌, [], List, length, map, Result, Ok, Err, Vec, ap, sym, subst, ◌∙◌, inl, inr}
use Rattle.std.specs.declared.alloc.Global.{Global}
use Rattle.std.proofs.lemmas.List.{map-append}
use Rattle.mpx_name.specs.Name.{Name}
use Rattle.mpx_num.specs.declared.own.Operation.{Operation}
use Rattle.mpx_post.specs.declared.draft.Draft.{Draft}
use Rattle.mpx_node.specs.Nodes.{NodeView}
use Rattle.mpx_request.specs.declared.answers.TurnError.{TurnError}
use Rattle.mpx_comm.specs.declared.desk.Desk.{Desk}
use Rattle.mpx_call.specs.Parts.{AreParts, Follow, Part, cut, put_together}
use Rattle.mpx_call.proofs.Cuts.{SoFar, all_done, one_more}
use Rattle.mpx_program_rank.specs.Gives.{Gives, IsRead}
use Rattle.mpx_program_rank.specs.Lengths.{MakesPart}

-- the lists that the calls have given
abbrev pub lists_of : {T : Type 0} → List (Vec T Global) → List (List T)
lists_of {T} lists = map (λ (list : Vec T Global). list.items) lists

-- one call is that of its part
made : {H : Type 0} {g : _} {T : Type 0} (ops_of : H → List Operation) (node : H → NodeView) (turned : H → ℕ → H → Type 0) (refused : H → TurnError → H → Type 0) (name : Name) (draft_of : ℕ → List T → Draft) (numbers : List T → List ℤ) (turns each : ℕ) (given : List T) (part : Vec T Global) (old new : Desk H g)
    → Gives (ops_of old.host) node turned refused name (draft_of each given) turns (IsRead numbers) (Ok part) old new
    → MakesPart ops_of node turned refused name draft_of numbers turns (record { count = each; given = given; got = part.items }) old new
made ops_of node turned refused name draft_of numbers turns each given part old new (inl none) = absurd none
made ops_of node turned refused name draft_of numbers turns each given part old new (inr (Ok finished, does, is)) = (finished, does, is)
made ops_of node turned refused name draft_of numbers turns each given part old new (inr (Err why, does, is)) = absurd is

pub goes_on : {H : Type 0} {g : _} {T : Type 0} (ops_of : H → List Operation) (node : H → NodeView) (turned : H → ℕ → H → Type 0) (refused : H → TurnError → H → Type 0) (name : Name) (draft_of : ℕ → List T → Draft) (numbers : List T → List ℤ) (turns now most gives count first each : ℕ) (items given : List T) (lists more : List (Vec T Global)) (part : Vec T Global) (old between new : Desk H g)
    → SoFar (MakesPart ops_of node turned refused name draft_of numbers turns) most gives count first items (lists_of lists) old between
    → length items ≡ gives * count → first + each ≤ count → each ≤ most → 0 < each → (first + each < count → each ≡ most) → given ≡ cut gives count first each items → now ≡ turns
    → Gives (ops_of between.host) node turned refused name (draft_of each given) now (IsRead numbers) (Ok part) between new → more ≡ lists ++ part ∷ []
    → SoFar (MakesPart ops_of node turned refused name draft_of numbers turns) most gives count (first + each) items (lists_of more) old new
goes_on {H} {g} {T} ops_of node turned refused name draft_of numbers turns now most gives count first each items given lists more part old between new so_far whole fits few some last is same call push =
    subst (λ l. SoFar (MakesPart ops_of node turned refused name draft_of numbers turns) most gives count (first + each) items l old new)
    (sym (ap lists_of push ∙ map-append (λ (list : Vec T Global). list.items) lists (part ∷ [])))
    (one_more (MakesPart ops_of node turned refused name draft_of numbers turns) most gives count first each items (lists_of lists) given part.items old between new so_far whole fits few some last is
    (made ops_of node turned refused name draft_of numbers turns each given part between new
    (subst (λ n. Gives (ops_of between.host) node turned refused name (draft_of each given) n (IsRead numbers) (Ok part) between new) same call)))

-- none are left
pub no_more : {H : Type 0} {g : _} {T : Type 0} (ops_of : H → List Operation) (node : H → NodeView) (turned : H → ℕ → H → Type 0) (refused : H → TurnError → H → Type 0) (name : Name) (draft_of : ℕ → List T → Draft) (numbers : List T → List ℤ) (turns now most gives gets count first : ℕ) (items list : List T) (lists : List (Vec T Global)) (old new : Desk H g)
    → SoFar (MakesPart ops_of node turned refused name draft_of numbers turns) most gives count first items (lists_of lists) old new
    → first ≡ count → length items ≡ gives * count → turns ≡ now → list ≡ put_together gets (lists_of lists)
    → (parts : List (Part T)) × Follow (MakesPart ops_of node turned refused name draft_of numbers now) parts old new × AreParts most gives gets count items list parts
no_more {H} {g} {T} ops_of node turned refused name draft_of numbers turns now most gives gets count first items list lists old new so_far all whole same is =
    all_done (MakesPart ops_of node turned refused name draft_of numbers now) most gives gets count items (lists_of lists) list old new
    (subst (λ n. SoFar (MakesPart ops_of node turned refused name draft_of numbers n) most gives count count items (lists_of lists) old new) same
    (subst (λ n. SoFar (MakesPart ops_of node turned refused name draft_of numbers turns) most gives count n items (lists_of lists) old new) all so_far))
    whole is
