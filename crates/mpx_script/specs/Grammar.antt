-- What the first words of a line stand for: a number of ranks, a label, a statement's word, and whether a call ends with a name.
use Rattle.std.specs.Prelude.{ℕ, ◌-◌, nat_le, Bool, true, false, ◌==◌, ◌&&◌, List, [], ◌∷◌, length, take, slice_index, slice_get, codes, bytes_eq, Option, Some, None, is_none, option_and_then, ℤ, pos, negsuc, if◌then◌else◌}
use Rattle.std.specs.Option.{option_map, option_or}
use Rattle.mpx_num.specs.Text.{number_of}
use Rattle.mpx_kind.specs.declared.kinds.Kind.{Kind}
use Rattle.mpx_kind.specs.declared.kinds.Kind.TheVariants as K
use Rattle.mpx_kind.specs.declared.kinds.Mode.{Mode}
use Rattle.mpx_kind.specs.declared.kinds.Mode.TheVariants.{Blocking, Nonblocking}
use Rattle.mpx_kind.specs.declared.kinds.Call.{Call as KindOfCall}
use Rattle.mpx_kind.specs.declared.kinds.Call.TheVariants as C
use Rattle.mpx_kind.specs.declared.kinds.Exchange.TheVariants as E
use Rattle.mpx_kind.specs.declared.kinds.Reduction.TheVariants as R
use Rattle.mpx_kind.specs.declared.kinds.Neighbourhood.TheVariants as H
use Rattle.mpx_kind.specs.declared.kinds.NewCommunicator.TheVariants as N
use Rattle.mpx_kind.specs.Kinds.{makes_communicators, may_be}
use Rattle.mpx_script.specs.declared.grammar.QuestionForm.TheVariants as A
use Rattle.mpx_script.specs.declared.grammar.Form.{Form}
use Rattle.mpx_script.specs.declared.grammar.Form.TheVariants as M
use Rattle.mpx_script.specs.declared.grammar.Label.{Label}
use Rattle.mpx_script.specs.declared.grammar.Label.TheVariants.{Every, Numbered}
use Rattle.mpx_script.specs.declared.grammar.Waited.TheVariants as W
use Rattle.mpx_statement.specs.Lookups.{named}
use Rattle.mpx_statement.specs.declared.statement.Side.TheVariants.{Sources, Destinations}

infixl 10 ◌>>=◌
abbrev pub ◌>>=◌ : {A B : Type 0} → Option A → (A → Option B) → Option B
option >>= next = option_and_then next option

-- a number of ranks: from 1 to 64
abbrev pub rank_count : ℤ → Option ℕ
rank_count (pos n) = if nat_le 1 n && nat_le n 64 then Some n else None
rank_count (negsuc n) = None

-- the number N of a line `ranks N`: the first of just two words is `ranks`
unfoldable pub ranks_number : List (List ℕ) → Option ℤ
ranks_number words = do
  head ← slice_get words 0
  number ← slice_get words 1
  if bytes_eq head (codes "ranks") && is_none (slice_get words 2) then number_of number else None

-- STATEMENTS: a word for each kind of call, which with `i` before it stands for the nonblocking call, and one for each
-- statement that doesn't post. Behind the word of a call stands its communicator, and behind that in the order `COLOUR KEY TAG
-- RANKS EDGES SOURCES DESTINATIONS -> NAME` and `ROOT OPERATION TYPE SCOUNTS RCOUNTS ITEMS` those words that its kind has, and
-- last, where it is nonblocking, `-> REQUEST`. Behind `wait` stands a request, behind `waitall` any number of them but none;
-- behind the word of one that asks `COMMUNICATOR COMMUNICATOR RANKS`, those that it has.

unfoldable pub kind_named : List ℕ → Option Kind
kind_named word = named (
    (codes "barrier", K.Exchange E.Barrier)
    ∷ (codes "bcast", K.Exchange E.Bcast)
    ∷ (codes "gather", K.Exchange E.Gather)
    ∷ (codes "gatherv", K.Exchange E.Gatherv)
    ∷ (codes "scatter", K.Exchange E.Scatter)
    ∷ (codes "scatterv", K.Exchange E.Scatterv)
    ∷ (codes "allgather", K.Exchange E.Allgather)
    ∷ (codes "allgatherv", K.Exchange E.Allgatherv)
    ∷ (codes "alltoall", K.Exchange E.Alltoall)
    ∷ (codes "alltoallv", K.Exchange E.Alltoallv)
    ∷ (codes "reduce", K.Reduction R.Reduce)
    ∷ (codes "allreduce", K.Reduction R.Allreduce)
    ∷ (codes "reduce_scatter_block", K.Reduction R.ReduceScatterBlock)
    ∷ (codes "reduce_scatter", K.Reduction R.ReduceScatter)
    ∷ (codes "scan", K.Reduction R.Scan)
    ∷ (codes "exscan", K.Reduction R.Exscan)
    ∷ (codes "dup", K.NewCommunicator N.Dup)
    ∷ (codes "split", K.NewCommunicator N.Split)
    ∷ (codes "create", K.NewCommunicator N.Create)
    ∷ (codes "create_group", K.NewCommunicator N.CreateGroup)
    ∷ (codes "dist_graph", K.NewCommunicator N.DistGraph)
    ∷ (codes "dist_graph_adjacent", K.NewCommunicator N.DistGraphAdjacent)
    ∷ (codes "neighbor_allgather", K.Neighbourhood H.Allgather)
    ∷ (codes "neighbor_allgatherv", K.Neighbourhood H.Allgatherv)
    ∷ (codes "neighbor_alltoall", K.Neighbourhood H.Alltoall)
    ∷ (codes "neighbor_alltoallv", K.Neighbourhood H.Alltoallv)
    ∷ (codes "free", K.Free)
    ∷ []) word

-- the kind of a nonblocking call, where there are such calls: behind an `i` (105) its blocking call's word
unfoldable pub started_named : List ℕ → Option Kind
started_named [] = None
started_named (first ∷ word) = if first == 105 then option_and_then (λ kind. if may_be Nonblocking kind then Some kind else None) (kind_named word) else None

unfoldable pub local_named : List ℕ → Option Form
local_named word = named (
    (codes "wait", M.Wait W.One)
    ∷ (codes "waitall", M.Wait W.All)
    ∷ (codes "sources", M.Ask (A.Neighbours Sources))
    ∷ (codes "destinations", M.Ask (A.Neighbours Destinations))
    ∷ (codes "compare", M.Ask A.Compare)
    ∷ (codes "translate", M.Ask A.Translate)
    ∷ []) word

-- what a statement's word stands for: a kind of call and whether it blocks, a wait, or one that asks
abbrev pub form_named : List ℕ → Option Form
form_named word = option_or (option_map (λ kind. M.Call kind Blocking) (kind_named word))
    (option_or (option_map (λ kind. M.Call kind Nonblocking) (started_named word)) (local_named word))

-- whether a call ends with `-> NAME`: the name for the communicator that it makes, or for its request
abbrev pub ends_with_name : Kind → Mode → Bool
ends_with_name kind Blocking = makes_communicators kind
ends_with_name kind Nonblocking = true

-- `*` for every rank, or a number, with `:` (58) after it
unfoldable pub label_of : List ℕ → Option Label
label_of word =
    let label : List ℕ = take (length word - 1) word in
    if slice_index word (length word - 1) == 58 then (if bytes_eq label (codes "*") then Some Every else option_map Numbered (number_of label)) else None

-- the call of a kind that blocks, or one that doesn't where there is such a call
abbrev pub call_with : Mode → Kind → KindOfCall
call_with mode (K.Exchange exchange) = C.Exchange exchange mode
call_with mode (K.Reduction reduction) = C.Reduction reduction mode
call_with mode (K.NewCommunicator new) = C.NewCommunicator new
call_with mode (K.Neighbourhood exchange) = C.Neighbourhood exchange mode
call_with mode K.Free = C.Free
