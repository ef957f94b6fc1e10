-- The evaluation of small scripts.
use Rattle.std.proofs.Common.{◌≡◌, ℕ, ℤ, ◌-◌, ◌^◌, pos, negsuc, List, [], ◌∷◌, codes, true, Some, None, refl}
use Rattle.std.specs.Fmt.{digits}
use Rattle.mpx_num.specs.declared.types.Ty.TheVariants.{I64}
use Rattle.mpx_num.specs.declared.operations.Op.TheVariants.{Sum}
use Rattle.mpx_num.specs.Wrapping.{into_range}
use Rattle.mpx_num.specs.Operations.{combined, elementwise, predefined}
use Rattle.mpx_kind.specs.declared.kinds.Kind.{Kind}
use Rattle.mpx_kind.specs.declared.kinds.Kind.TheVariants as K
use Rattle.mpx_kind.specs.declared.kinds.Call.TheVariants as C
use Rattle.mpx_kind.specs.declared.kinds.Exchange.TheVariants as E
use Rattle.mpx_kind.specs.declared.kinds.Reduction.TheVariants as R
use Rattle.mpx_kind.specs.declared.kinds.NewCommunicator.TheVariants as N
use Rattle.mpx_kind.specs.declared.kinds.Mode.TheVariants.{Nonblocking}
use Rattle.mpx_group.specs.declared.ranks.Rank.TheVariants.{At, ProcNull, Undefined}
use Rattle.mpx_name.specs.declared.steps.Step.TheVariants.{Child, Gathering}
use Rattle.mpx_post.specs.declared.draft.PostError.TheVariants.{Closed, NoTopology, NotMember, RootOutOfRange, ItemOutOfRange}
use Rattle.mpx_post.specs.Drafts.{checked}
use Rattle.mpx_post.specs.Gatherings.{gathering}
use Rattle.mpx_kind.specs.Kinds.{blocking}
use Rattle.mpx_match.specs.declared.faults.FaultKind.{FaultKind}
use Rattle.mpx_match.specs.declared.faults.FaultKind.TheVariants as F
use Rattle.mpx_match.specs.Verdicts.{verdict}
use Rattle.mpx_value.specs.declared.outcomes.Outcome.TheVariants as O
use Rattle.mpx_graph.specs.Graphs.{general}
use Rattle.mpx_value.specs.Children.{children}
use Rattle.mpx_value.specs.Values.{value}
use Rattle.mpx_statement.specs.declared.statement.Posting.TheVariants.{Call, Start, New, CreateGroup}
use Rattle.mpx_statement.specs.declared.statement.Question.TheVariants.{Neighbours, Compare, Translate}
use Rattle.mpx_statement.specs.declared.statement.Side.TheVariants.{Sources, Destinations}
use Rattle.mpx_statement.specs.declared.statement.Statement.{Statement}
use Rattle.mpx_statement.specs.declared.statement.Statement.TheVariants.{Post, Wait, Ask}
use Rattle.mpx_meaning.specs.declared.asking.Relation.TheVariants.{Ident, Congruent}
use Rattle.mpx_meaning.specs.Ranks.{Line, Compared, Idle, Near, StrayRank, Told, Translated, Refused}
use Rattle.mpx_meaning.specs.Evaluation.{start_state, moves}
use Rattle.mpx_meaning.specs.Transcripts.{line_text}

-- a blocking call of 64-bit numbers
abbrev call : Kind → (root : ℤ) → (rcounts items : List ℤ) → Statement
call kind root rcounts items = Post (Call (codes "world") (record { call = blocking kind; root = root; op = Sum; ty = I64; scounts = []; rcounts = rcounts; items = items; colour = None; key = pos 0; group = []; graph = None }))

abbrev sum : List ℤ → Statement
sum items = call (K.Reduction R.Allreduce) (pos 0) [] items

abbrev barrier : Statement
barrier = call (K.Exchange E.Barrier) (pos 0) [] []

-- a graph of the world, for `loop`, with an edge from rank 0 to itself
abbrev loop : Statement
loop = Post (New (codes "world") (record { call = blocking (K.NewCommunicator N.DistGraph); root = pos 0; op = Sum; ty = I64; scounts = []; rcounts = []; items = []; colour = None; key = pos 0; group = []; graph = Some (record { weighted = true; edges = record { source = pos 0; destination = pos 0; weight = pos 5 } ∷ []; sources = []; destinations = [] }) }) (codes "loop"))

-- a nonblocking one of one number from rank 0
abbrev ibcast : (items : List ℤ) → (request : List ℕ) → Statement
ibcast items request = Post (Start (codes "world") (record { call = C.Exchange E.Bcast Nonblocking; root = pos 0; op = Sum; ty = I64; scounts = []; rcounts = pos 1 ∷ []; items = items; colour = None; key = pos 0; group = []; graph = None }) request)

-- a copy of the world, for `copy`
abbrev copy : Statement
copy = Post (New (codes "world") (record { call = blocking (K.NewCommunicator N.Dup); root = pos 0; op = Sum; ty = I64; scounts = []; rcounts = []; items = []; colour = None; key = pos 0; group = []; graph = None }) (codes "copy"))

-- the end of a communicator
abbrev free : (on : List ℕ) → Statement
free on = Post (Call on (record { call = C.Free; root = pos 0; op = Sum; ty = I64; scounts = []; rcounts = []; items = []; colour = None; key = pos 0; group = []; graph = None }))

-- ranks 0 and 2 of the world, for `ends`
abbrev ends : Statement
ends = Post (CreateGroup (codes "world") (pos 0) (pos 0 ∷ pos 2 ∷ []) (codes "ends"))

-- what a call of the world gave
abbrev tells_items : (call : ℕ) → List ℤ → Line
tells_items call nums = Told [] call (O.Items (record { ty = I64; nums = nums }))

abbrev tells_fault : (call : ℕ) → FaultKind → ℕ → Line
tells_fault call what rank = Told [] call (O.Fault (record { what = what; rank = rank }))

-- the lines of two ranks with these statements, after moves in this order
lines_after : List ℕ → (first second : List Statement) → List (List Line)
lines_after order first second =
    let script : List (List Statement) = first ∷ second ∷ [] in
    (moves [] 2 order (start_state script 2) 0).lines ∷ (moves [] 2 order (start_state script 2) 1).lines ∷ []

-- the lines of a rank that is alone, with these statements
lines_alone : List ℕ → List Statement → List Line
lines_alone order statements = (moves [] 1 order (start_state (statements ∷ []) 1) 0).lines

-- the lines of the first of three ranks, where it and the last one have these statements
lines_of_first : List ℕ → (first last : List Statement) → List Line
lines_of_first order first last = (moves [] 3 order (start_state (first ∷ [] ∷ last ∷ []) 3) 0).lines

record Examples : Type 0 where
  -- 1 and 2 make 3, and the greatest number and 1 make the least
  sums : lines_after (0 ∷ 1 ∷ 1 ∷ 0 ∷ []) (sum (pos 1 ∷ pos (2 ^ 63 - 1) ∷ []) ∷ []) (sum (pos 2 ∷ pos 1 ∷ []) ∷ [])
      ≡ (tells_items 0 (pos 3 ∷ negsuc (2 ^ 63 - 1) ∷ []) ∷ []) ∷ (tells_items 0 (pos 3 ∷ negsuc (2 ^ 63 - 1) ∷ []) ∷ []) ∷ []
  -- a rank that is alone with its post waits
  alone : lines_after (0 ∷ 0 ∷ 0 ∷ []) (sum (pos 1 ∷ []) ∷ []) (sum (pos 2 ∷ []) ∷ []) ≡ [] ∷ [] ∷ []
  -- where one gives two items and the other one, both are told so
  amounts : lines_after (0 ∷ 1 ∷ 0 ∷ 1 ∷ []) (sum (pos 1 ∷ pos 5 ∷ []) ∷ []) (sum (pos 2 ∷ []) ∷ [])
      ≡ (tells_fault 0 F.Amount 1 ∷ []) ∷ (tells_fault 0 F.Amount 1 ∷ []) ∷ []
  -- a post that is refused is no call
  refused : lines_after (0 ∷ 0 ∷ 1 ∷ 0 ∷ 1 ∷ []) (sum (pos (2 ^ 63) ∷ []) ∷ sum (pos 1 ∷ []) ∷ []) (sum (pos 2 ∷ []) ∷ [])
      ≡ (Refused ItemOutOfRange ∷ tells_items 0 (pos 3 ∷ []) ∷ []) ∷ (tells_items 0 (pos 3 ∷ []) ∷ []) ∷ []
  -- a barrier gives nothing, and the last rank of a scan that leaves out its own items gets those of the first
  nothing : lines_after (0 ∷ 1 ∷ 0 ∷ 1 ∷ 0 ∷ 1 ∷ 0 ∷ 1 ∷ []) (barrier ∷ call (K.Reduction R.Exscan) (pos 0) [] (pos 7 ∷ []) ∷ []) (barrier ∷ call (K.Reduction R.Exscan) (pos 0) [] (pos 8 ∷ []) ∷ [])
      ≡ (Told [] 0 O.Nothing ∷ Told [] 1 O.Absent ∷ []) ∷ (Told [] 0 O.Nothing ∷ tells_items 1 (pos 7 ∷ []) ∷ []) ∷ []
  -- all get what the root gives, and rank 2 isn't one of two
  roots : lines_after (0 ∷ 0 ∷ 1 ∷ 0 ∷ 1 ∷ []) (call (K.Exchange E.Bcast) (pos 2) (pos 1 ∷ []) [] ∷ call (K.Exchange E.Bcast) (pos 1) (pos 2 ∷ []) [] ∷ []) (call (K.Exchange E.Bcast) (pos 1) (pos 2 ∷ []) (pos 4 ∷ pos 5 ∷ []) ∷ [])
      ≡ (Refused RootOutOfRange ∷ tells_items 0 (pos 4 ∷ pos 5 ∷ []) ∷ []) ∷ (tells_items 0 (pos 4 ∷ pos 5 ∷ []) ∷ []) ∷ []
  -- each gets its own row of blocks
  blocks : lines_after (0 ∷ 1 ∷ 0 ∷ 1 ∷ []) (call (K.Exchange E.Alltoall) (pos 0) (pos 1 ∷ []) (pos 1 ∷ pos 2 ∷ []) ∷ []) (call (K.Exchange E.Alltoall) (pos 0) (pos 1 ∷ []) (pos 3 ∷ pos 4 ∷ []) ∷ [])
      ≡ (tells_items 0 (pos 1 ∷ pos 3 ∷ []) ∷ []) ∷ (tells_items 0 (pos 2 ∷ pos 4 ∷ []) ∷ []) ∷ []
  -- a barrier and a sum don't match
  kinds : lines_after (0 ∷ 1 ∷ 1 ∷ 0 ∷ []) (barrier ∷ []) (sum [] ∷ []) ≡ (tells_fault 0 F.Kind 1 ∷ []) ∷ (tells_fault 0 F.Kind 1 ∷ []) ∷ []
  -- the world has no neighbours to tell
  no_topology : lines_alone (0 ∷ 0 ∷ []) (Ask (Neighbours (codes "world") Sources) ∷ Ask (Neighbours (codes "other") Destinations) ∷ []) ≡ Refused NoTopology ∷ Refused NotMember ∷ []
  -- who has an edge to itself is its own source
  own_source : lines_alone (0 ∷ 0 ∷ 0 ∷ []) (loop ∷ Ask (Neighbours (codes "loop") Sources) ∷ [])
      ≡ Told [] 0 (O.NewComm (Child 0 0 ∷ []) 1 0) ∷ Near true (record { rank = 0; weight = 5 } ∷ []) ∷ []
  -- a wait passes once all have posted; then its request is idle
  idle : lines_after (0 ∷ 0 ∷ 1 ∷ 0 ∷ 0 ∷ 1 ∷ []) (ibcast (pos 4 ∷ []) (codes "r") ∷ Wait (codes "r" ∷ []) ∷ Wait (codes "r" ∷ []) ∷ []) (ibcast [] (codes "r") ∷ Wait (codes "r" ∷ []) ∷ [])
      ≡ (tells_items 0 (pos 4 ∷ []) ∷ Idle ∷ []) ∷ (tells_items 0 (pos 4 ∷ []) ∷ []) ∷ []
  -- till then nothing is told
  unfinished : lines_after (0 ∷ 0 ∷ 0 ∷ []) (ibcast (pos 4 ∷ []) (codes "r") ∷ Wait (codes "r" ∷ []) ∷ Wait (codes "r" ∷ []) ∷ []) (ibcast [] (codes "r") ∷ []) ≡ [] ∷ [] ∷ []
  -- outcomes are told in the order of the words, and a request that is named twice is idle the second time
  twice : lines_alone (0 ∷ 0 ∷ 0 ∷ []) (ibcast (pos 4 ∷ []) (codes "a") ∷ ibcast (pos 5 ∷ []) (codes "b") ∷ Wait (codes "b" ∷ codes "a" ∷ codes "b" ∷ []) ∷ [])
      ≡ tells_items 1 (pos 5 ∷ []) ∷ tells_items 0 (pos 4 ∷ []) ∷ Idle ∷ []
  -- a copy of a communicator is congruent to it, and each is ident to itself
  compared : lines_alone (0 ∷ 0 ∷ 0 ∷ 0 ∷ 0 ∷ []) (copy ∷ Ask (Compare (codes "world") (codes "copy")) ∷ Ask (Compare (codes "copy") (codes "copy")) ∷ Ask (Compare (codes "copy") (codes "none")) ∷ [])
      ≡ Told [] 0 (O.NewComm (Child 0 0 ∷ []) 1 0) ∷ Compared Congruent ∷ Compared Ident ∷ Refused NotMember ∷ []
  -- of three ranks the first and the last are ranks 0 and 1 of their own communicator
  translated : lines_of_first (0 ∷ 2 ∷ 0 ∷ 0 ∷ 0 ∷ []) (ends ∷ Ask (Translate (codes "world") (codes "ends") (Some (pos 0) ∷ Some (pos 1) ∷ Some (pos 2) ∷ None ∷ [])) ∷ Ask (Translate (codes "world") (codes "ends") (Some (pos 3) ∷ [])) ∷ []) (ends ∷ [])
      ≡ Told (Gathering 0 (0 ∷ 2 ∷ []) ∷ []) 0 (O.NewComm (Child 0 0 ∷ Gathering 0 (0 ∷ 2 ∷ []) ∷ []) 2 0) ∷ Translated (At 0 ∷ Undefined ∷ At 1 ∷ ProcNull ∷ []) ∷ StrayRank ∷ []
  -- behind its free a communicator is closed to the rank, and others aren't
  freed : lines_alone (0 ∷ 0 ∷ 0 ∷ 0 ∷ 0 ∷ 0 ∷ 0 ∷ 0 ∷ 0 ∷ []) (copy ∷ free (codes "copy") ∷ free (codes "copy") ∷ Ask (Compare (codes "world") (codes "copy")) ∷ Ask (Compare (codes "none") (codes "copy")) ∷ barrier ∷ [])
      ≡ Told [] 0 (O.NewComm (Child 0 0 ∷ []) 1 0) ∷ Told (Child 0 0 ∷ []) 0 O.Nothing ∷ Refused Closed ∷ Refused Closed ∷ Refused NotMember ∷ Told [] 1 O.Nothing ∷ []
  -- it is so too where the calls didn't match, and who posted no free goes on
  freed_alone : lines_after (0 ∷ 1 ∷ 0 ∷ 1 ∷ 0 ∷ 1 ∷ 1 ∷ []) (free (codes "world") ∷ barrier ∷ []) (barrier ∷ barrier ∷ [])
      ≡ (tells_fault 0 F.Kind 1 ∷ Refused Closed ∷ []) ∷ (tells_fault 0 F.Kind 1 ∷ []) ∷ []
  -- as text
  ranks : line_text (Translated (At 0 ∷ Undefined ∷ At 1 ∷ ProcNull ∷ [])) ≡ codes "0 undefined 1 null"

examples : Examples
unfolding lines_after lines_alone lines_of_first children general checked gathering digits value verdict elementwise predefined combined into_range
examples = record {
  sums = refl;
  alone = refl;
  amounts = refl;
  refused = refl;
  nothing = refl;
  roots = refl;
  blocks = refl;
  kinds = refl;
  no_topology = refl;
  own_source = refl;
  idle = refl;
  unfinished = refl;
  twice = refl;
  compared = refl;
  translated = refl;
  freed = refl;
  freed_alone = refl;
  ranks = refl;
}
