-- Scripts and what they are read as.
use Rattle.std.proofs.Common.{◌≡◌, ℕ, true, List, [], ◌∷◌, ◌++◌, codes, map, pos, negsuc, Some, None, Result, Ok, Err, refl}
use Rattle.mpx_num.specs.Text.{number_of, magnitude}
use Rattle.mpx_num.specs.OwnWords.{is_name, place_named}
use Rattle.mpx_num.specs.declared.own.Operation.{Operation}
use Rattle.mpx_num.specs.declared.types.Ty.TheVariants.{I32, I64, U8, U64, TwoInt}
use Rattle.mpx_num.specs.declared.operations.Op.TheVariants.{Max, Own}
use Rattle.mpx_kind.specs.declared.kinds.Call.TheVariants.{Exchange, Reduction, Neighbourhood}
use Rattle.mpx_kind.specs.declared.kinds.Exchange.TheVariants as E
use Rattle.mpx_kind.specs.declared.kinds.Kind.{Kind}
use Rattle.mpx_kind.specs.declared.kinds.Mode.TheVariants.{Nonblocking}
use Rattle.mpx_kind.specs.declared.kinds.Neighbourhood.TheVariants as H
use Rattle.mpx_kind.specs.declared.kinds.Reduction.TheVariants as R
use Rattle.mpx_kind.specs.declared.kinds.Kind.TheVariants as K
use Rattle.mpx_kind.specs.declared.kinds.NewCommunicator.TheVariants as N
use Rattle.mpx_post.specs.declared.draft.Draft.{Draft}
use Rattle.mpx_post.specs.Drafts.{empty_draft}
use Rattle.mpx_post.specs.declared.drafted_edges.DraftedEdge.{DraftedEdge}
use Rattle.mpx_post.specs.declared.drafted_edges.DraftedNeighbour.{DraftedNeighbour}
use Rattle.mpx_post.specs.Graphs.{GraphView, no_graph}
use Rattle.mpx_kind.specs.Kinds.{blocking}
use Rattle.mpx_script.specs.Words.{words, counts, is_ascii}
use Rattle.mpx_script.specs.Grammar.{ranks_number, kind_named, started_named, local_named, label_of}
use Rattle.mpx_script.specs.Fields.{operation_named, predefined_named, type_named, list_named, rank_named, ranks_named, colour_named}
use Rattle.mpx_script.specs.Syntax.{statements_in}
use Rattle.mpx_script.specs.Graphs.{edge_named, neighbour_named, is_weighted, entries_in, edges_graph, neighbours_graph}
use Rattle.mpx_script.specs.Refusals.{is_unknown_line, on_form}
use Rattle.mpx_script.specs.Meanings.{names_rank, statement_in}
use Rattle.mpx_script.specs.Naming.{has_bad_name, on_names}
use Rattle.mpx_script.specs.ScriptView.{ScriptView}
use Rattle.mpx_script.specs.Reading.{reading}
use Rattle.mpx_statement.specs.declared.statement.Posting.{Posting}
use Rattle.mpx_statement.specs.declared.statement.Posting.TheVariants.{Call, Start, New, CreateGroup}
use Rattle.mpx_statement.specs.declared.statement.Question.{Question}
use Rattle.mpx_statement.specs.declared.statement.Question.TheVariants.{Neighbours, Compare, Translate}
use Rattle.mpx_statement.specs.declared.statement.Side.TheVariants.{Sources, Destinations}
use Rattle.mpx_statement.specs.declared.statement.Statement.{Statement}
use Rattle.mpx_statement.specs.declared.statement.Statement.TheVariants.{Post, Wait, Ask}
use Rattle.mpx_script.specs.declared.faults.ScriptFault.{ScriptFault}
use Rattle.mpx_script.specs.declared.faults.ScriptFault.TheVariants.{NoRanksLine, RanksOutOfRange, RankOutOfRange, UnknownStatement, WrongWords, BadNumber, BadList, BadName, NameUnknown, NameTaken}
use Rattle.mpx_script.specs.declared.faults.ScriptError.{ScriptError}

-- lines, each with its newline
script : List (List ℕ) → List ℕ
script [] = []
script (line ∷ more) = line ++ 10 ∷ script more

-- a script of one rank with this line
alone : List ℕ → List ℕ
alone line = script (codes "ranks 1" ∷ line ∷ [])

refused_at : ℕ → ScriptFault → Result ScriptView ScriptError
refused_at line what = Err (record { line = line; what = what })

-- a draft that tells its kind alone
abbrev blank : Kind → Draft
blank kind = empty_draft (blocking kind)

sum_of : List ℕ → Statement
sum_of items = Post (Call (codes "world") (record (blank (K.Reduction R.Allreduce)) { ty = I64; items = map pos items }))

-- one rank with this statement
says : Draft → Result ScriptView ScriptError
says draft = Ok (record { ranks = 1; statements = (Post (Call (codes "world") draft) ∷ []) ∷ [] })

-- one rank with this statement that makes a communicator
makes : Posting → Result ScriptView ScriptError
makes posting = Ok (record { ranks = 1; statements = (Post posting ∷ []) ∷ [] })

-- one rank with this question
asks : Question → Result ScriptView ScriptError
asks question = Ok (record { ranks = 1; statements = (Ask question ∷ []) ∷ [] })

-- a barrier, and a sum, whose requests are these names
barrier_as : List ℕ → Posting
barrier_as request = Start (codes "world") (record (blank (K.Exchange E.Barrier)) { call = Exchange E.Barrier Nonblocking }) request

sum_as : List ℕ → Posting
sum_as request = Start (codes "world") (record (blank (K.Reduction R.Allreduce)) { call = Reduction R.Allreduce Nonblocking; ty = I32; items = pos 1 ∷ pos 2 ∷ [] }) request

-- a graph of any edges, and one of a rank's own neighbours, for `a`
of_edges : GraphView → Posting
of_edges graph = New (codes "world") (record (blank (K.NewCommunicator N.DistGraph)) { graph = Some graph }) (codes "a")

of_neighbours : GraphView → Posting
of_neighbours graph = New (codes "world") (record (blank (K.NewCommunicator N.DistGraphAdjacent)) { graph = Some graph }) (codes "a")

edge : (source destination weight : ℕ) → DraftedEdge
edge source destination weight = record { source = pos source; destination = pos destination; weight = pos weight }

neighbour : (rank weight : ℕ) → DraftedNeighbour
neighbour rank weight = record { rank = pos rank; weight = pos weight }

-- operations of a job's own with these words
with_word : List ℕ → Operation
with_word word = record { word = word; types = []; results = [] }

own_two : List Operation
own_two = with_word (codes "affine") ∷ with_word (codes "later_2") ∷ []

-- scripts that are read, and first refusals
record Examples : Type 0 where
  three_ranks : reading [] (script (codes "ranks 3" ∷ codes "0: allreduce world sum i64 1 2" ∷ codes "1: allreduce world sum i64 3 4" ∷ codes "2: allreduce world sum i64 5 6" ∷ []))
      ≡ Ok (record { ranks = 3; statements = (sum_of (1 ∷ 2 ∷ []) ∷ []) ∷ (sum_of (3 ∷ 4 ∷ []) ∷ []) ∷ (sum_of (5 ∷ 6 ∷ []) ∷ []) ∷ [] })
  every_rank : reading [] (script (codes "ranks 2" ∷ codes "0: allreduce world sum i64 9223372036854775808" ∷ codes "*: allreduce world sum i64 1" ∷ []))
      ≡ Ok (record { ranks = 2; statements = (sum_of (9223372036854775808 ∷ []) ∷ sum_of (1 ∷ []) ∷ []) ∷ (sum_of (1 ∷ []) ∷ []) ∷ [] })
  no_items : reading [] (alone (codes "0: barrier world")) ≡ says (blank (K.Exchange E.Barrier))
  root_and_count : reading [] (alone (codes "0: bcast world 1 2int 2 7 0 -3 1"))
      ≡ says (record (blank (K.Exchange E.Bcast)) { root = pos 1; ty = TwoInt; rcounts = pos 2 ∷ []; items = pos 7 ∷ pos 0 ∷ negsuc 2 ∷ pos 1 ∷ [] })
  list_and_count : reading [] (alone (codes "0: scatterv world 0 u8 1,2 1 5 6 7"))
      ≡ says (record (blank (K.Exchange E.Scatterv)) { ty = U8; scounts = pos 1 ∷ pos 2 ∷ []; rcounts = pos 1 ∷ []; items = pos 5 ∷ pos 6 ∷ pos 7 ∷ [] })
  no_counts : reading [] (alone (codes "0: gatherv world -1 i32 - 4")) ≡ says (record (blank (K.Exchange E.Gatherv)) { root = negsuc 0; ty = I32; items = pos 4 ∷ [] })
  operation_and_list : reading [] (alone (codes "0: reduce_scatter world max u64 1,0 9"))
      ≡ says (record (blank (K.Reduction R.ReduceScatter)) { op = Max; ty = U64; rcounts = pos 1 ∷ pos 0 ∷ []; items = pos 9 ∷ [] })
  passed_over : reading [] (13 ∷ 10 ∷ codes " # ranks 9" ++ 10 ∷ 9 ∷ codes "ranks 1") ≡ Ok (record { ranks = 1; statements = [] ∷ [] })
  too_many_ranks : reading [] (codes "ranks 65") ≡ refused_at 1 RanksOutOfRange
  nothing : reading [] [] ≡ refused_at 1 NoRanksLine
  strange_comment : reading [] (script (codes "# a" ∷ (35 ∷ 255 ∷ []) ∷ [])) ≡ refused_at 1 NoRanksLine
  last_return : reading [] (codes "ranks 1" ++ 13 ∷ []) ≡ refused_at 1 NoRanksLine
  no_rank : reading [] (alone (codes "1:")) ≡ refused_at 2 RankOutOfRange
  no_statement : reading [] (alone (codes "0:")) ≡ refused_at 2 UnknownStatement
  no_type : reading [] (alone (codes "0: allreduce world sum")) ≡ refused_at 2 WrongWords
  word_behind_barrier : reading [] (alone (codes "0: barrier world 1")) ≡ refused_at 2 WrongWords
  number_first : reading [] (alone (codes "0: allreduce World sum i64 +1")) ≡ refused_at 2 BadNumber
  list_for_a_count : reading [] (alone (codes "0: bcast world 0 i32 1,2 3")) ≡ refused_at 2 BadNumber
  gap_in_a_list : reading [] (alone (codes "0: alltoallv world i32 1,,2 1 3")) ≡ refused_at 2 BadList
  not_bound : reading [] (script (codes "ranks 1" ∷ codes "-0: allreduce a_1 sum i64" ∷ codes "x" ∷ [])) ≡ refused_at 2 NameUnknown
  dup : reading [] (alone (codes "0: dup world -> a")) ≡ makes (New (codes "world") (blank (K.NewCommunicator N.Dup)) (codes "a"))
  split : reading [] (alone (codes "0: split world -1 7 -> b_2")) ≡ makes (New (codes "world") (record (blank (K.NewCommunicator N.Split)) { colour = Some (negsuc 0); key = pos 7 }) (codes "b_2"))
  no_colour : reading [] (alone (codes "0: split world undefined 0 -> null")) ≡ makes (New (codes "world") (blank (K.NewCommunicator N.Split)) (codes "null"))
  create : reading [] (alone (codes "0: create world 2,0 -> a")) ≡ makes (New (codes "world") (record (blank (K.NewCommunicator N.Create)) { group = pos 2 ∷ pos 0 ∷ [] }) (codes "a"))
  create_group : reading [] (alone (codes "0: create_group world 9 - -> a")) ≡ makes (CreateGroup (codes "world") (pos 9) [] (codes "a"))
  edges : reading [] (alone (codes "0: dist_graph world 0>1,2>2 -> a")) ≡ makes (of_edges (record no_graph { edges = edge 0 1 0 ∷ edge 2 2 0 ∷ [] }))
  weighted_edge : reading [] (alone (codes "0: dist_graph world 3>1:7 -> a")) ≡ makes (of_edges (record no_graph { weighted = true; edges = edge 3 1 7 ∷ [] }))
  no_edges : reading [] (alone (codes "0: dist_graph world - -> a")) ≡ makes (of_edges no_graph)
  no_weighted_edges : reading [] (alone (codes "0: dist_graph world -w -> a")) ≡ makes (of_edges (record no_graph { weighted = true }))
  neighbours : reading [] (alone (codes "0: dist_graph_adjacent world 1,2 - -> a")) ≡ makes (of_neighbours (record no_graph { sources = neighbour 1 0 ∷ neighbour 2 0 ∷ [] }))
  weighted_neighbour : reading [] (alone (codes "0: dist_graph_adjacent world -w 2:5 -> a")) ≡ makes (of_neighbours (record no_graph { weighted = true; destinations = neighbour 2 5 ∷ [] }))
  mixed_edges : reading [] (alone (codes "0: dist_graph world 0>1:2,1>2 -> a")) ≡ refused_at 2 BadList
  mixed_neighbours : reading [] (alone (codes "0: dist_graph_adjacent world 1:2 - -> a")) ≡ refused_at 2 BadList
  edge_without_end : reading [] (alone (codes "0: dist_graph world 0,1 -> a")) ≡ refused_at 2 BadList
  edge_for_a_neighbour : reading [] (alone (codes "0: dist_graph_adjacent world 0>1 - -> a")) ≡ refused_at 2 BadList
  one_list_left_out : reading [] (alone (codes "0: dist_graph_adjacent world 0 -> a")) ≡ refused_at 2 WrongWords
  bound_before : reading [] (script (codes "ranks 1" ∷ codes "*: dup world -> a" ∷ codes "0: barrier a" ∷ [])) ≡ Ok (record { ranks = 1; statements = (Post (New (codes "world") (blank (K.NewCommunicator N.Dup)) (codes "a")) ∷ Post (Call (codes "a") (blank (K.Exchange E.Barrier))) ∷ []) ∷ [] })
  bound_elsewhere : reading [] (script (codes "ranks 2" ∷ codes "0: dup world -> a" ∷ codes "*: barrier a" ∷ [])) ≡ refused_at 3 NameUnknown
  bound_already : reading [] (script (codes "ranks 2" ∷ codes "1: dup world -> a" ∷ codes "*: dup world -> a" ∷ [])) ≡ refused_at 3 NameTaken
  bound_later : reading [] (alone (codes "0: dup a -> a")) ≡ refused_at 2 NameUnknown
  world_again : reading [] (alone (codes "0: dup world -> world")) ≡ refused_at 2 NameTaken
  no_arrow : reading [] (alone (codes "0: dup world = Zz")) ≡ refused_at 2 WrongWords
  list_left_out : reading [] (alone (codes "0: create world -> a")) ≡ refused_at 2 WrongWords
  word_behind_name : reading [] (alone (codes "0: dup world -> a b")) ≡ refused_at 2 WrongWords
  strange_colour : reading [] (alone (codes "0: split world Undefined 0 -> a")) ≡ refused_at 2 BadNumber
  tag_and_list : reading [] (alone (codes "0: create_group world 1,2 x -> a")) ≡ refused_at 2 BadNumber
  strange_rank : reading [] (alone (codes "0: create_group world 1 0,x -> a")) ≡ refused_at 2 BadList
  strange_name : reading [] (alone (codes "0: dup nope -> Zz")) ≡ refused_at 2 BadName
  freed : reading [] (alone (codes "0: free world")) ≡ says (blank K.Free)
  nonblocking_free : reading [] (alone (codes "0: ifree world -> r")) ≡ refused_at 2 UnknownStatement
  word_behind_free : reading [] (alone (codes "0: free world 1")) ≡ refused_at 2 WrongWords
  bound_behind_free : reading [] (script (codes "ranks 1" ∷ codes "0: dup world -> a" ∷ codes "0: free a" ∷ codes "0: dup world -> a" ∷ [])) ≡ refused_at 4 NameTaken
  counts_of_neighbours : reading [] (alone (codes "0: neighbor_alltoall world i32 1 2 5")) ≡ says (record (blank (K.Neighbourhood H.Alltoall)) { ty = I32; scounts = pos 1 ∷ []; rcounts = pos 2 ∷ []; items = pos 5 ∷ [] })
  lists_of_neighbours : reading [] (alone (codes "0: neighbor_alltoallv world i32 1,0 - 5")) ≡ says (record (blank (K.Neighbourhood H.Alltoallv)) { ty = I32; scounts = pos 1 ∷ pos 0 ∷ []; items = pos 5 ∷ [] })
  list_for_a_send_count : reading [] (alone (codes "0: neighbor_alltoall world i32 1,0 x 5")) ≡ refused_at 2 BadNumber
  asked : reading [] (script (codes "ranks 2" ∷ codes "*: sources world" ∷ codes "1: destinations world" ∷ []))
      ≡ Ok (record { ranks = 2; statements = (Ask (Neighbours (codes "world") Sources) ∷ []) ∷ (Ask (Neighbours (codes "world") Sources) ∷ Ask (Neighbours (codes "world") Destinations) ∷ []) ∷ [] })
  word_behind_sources : reading [] (alone (codes "0: sources world world")) ≡ refused_at 2 WrongWords
  nonblocking_sources : reading [] (alone (codes "0: isources world")) ≡ refused_at 2 UnknownStatement
  nonblocking_sum : reading [] (alone (codes "0: iallreduce world sum i32 1 2 -> r")) ≡ makes (sum_as (codes "r"))
  nonblocking_barrier : reading [] (alone (codes "0: ibarrier world -> r ")) ≡ makes (barrier_as (codes "r"))
  nonblocking_neighbours : reading [] (alone (codes "0: ineighbor_alltoallv world i8 - 3 -> r")) ≡ makes (Start (codes "world") (record (blank (K.Neighbourhood H.Alltoallv)) { call = Neighbourhood H.Alltoallv Nonblocking; rcounts = pos 3 ∷ [] }) (codes "r"))
  request_for_an_operation : reading [] (alone (codes "0: iallreduce world -> r")) ≡ refused_at 2 UnknownStatement
  request_for_a_type : reading [] (alone (codes "0: iallreduce world sum -> r")) ≡ refused_at 2 UnknownStatement
  request_for_a_count : reading [] (alone (codes "0: ialltoall world i32 -> r")) ≡ refused_at 2 WrongWords
  no_request : reading [] (alone (codes "0: iallreduce world sum i32 1 2")) ≡ refused_at 2 WrongWords
  item_behind_barrier : reading [] (alone (codes "0: ibarrier world 1 -> r")) ≡ refused_at 2 WrongWords
  arrow_among_items : reading [] (alone (codes "0: iallreduce world sum i32 -> 1 -> r")) ≡ refused_at 2 BadNumber
  request_of_a_blocking_call : reading [] (alone (codes "0: allreduce world sum i32 1 -> r")) ≡ refused_at 2 BadNumber
  strange_request : reading [] (alone (codes "0: ibarrier nope -> R")) ≡ refused_at 2 BadName
  nonblocking_dup : reading [] (alone (codes "0: idup world -> a")) ≡ refused_at 2 UnknownStatement
  nonblocking_wait : reading [] (alone (codes "0: iwait r")) ≡ refused_at 2 UnknownStatement
  waits : reading [] (script (codes "ranks 1" ∷ codes "0: ibarrier world -> r" ∷ codes "0: ibarrier world -> s" ∷ codes "0: wait r" ∷ codes "0: waitall s r s" ∷ []))
      ≡ Ok (record { ranks = 1; statements = (Post (barrier_as (codes "r")) ∷ Post (barrier_as (codes "s")) ∷ Wait (codes "r" ∷ []) ∷ Wait (codes "s" ∷ codes "r" ∷ codes "s" ∷ []) ∷ []) ∷ [] })
  wait_for_nothing : reading [] (alone (codes "0: waitall")) ≡ refused_at 2 WrongWords
  wait_for_two : reading [] (alone (codes "0: wait r r")) ≡ refused_at 2 WrongWords
  wait_for_no_name : reading [] (alone (codes "0: waitall r R")) ≡ refused_at 2 BadName
  wait_for_nobody : reading [] (alone (codes "0: wait r")) ≡ refused_at 2 NameUnknown
  wait_for_a_communicator : reading [] (alone (codes "0: wait world")) ≡ refused_at 2 NameUnknown
  call_on_a_request : reading [] (script (codes "ranks 1" ∷ codes "0: ibarrier world -> r" ∷ codes "0: barrier r" ∷ [])) ≡ refused_at 3 NameUnknown
  request_taken : reading [] (script (codes "ranks 1" ∷ codes "0: ibarrier world -> r" ∷ codes "0: ibarrier world -> r" ∷ [])) ≡ refused_at 3 NameTaken
  request_like_world : reading [] (alone (codes "0: ibarrier world -> world")) ≡ refused_at 2 NameTaken
  communicator_like_a_request : reading [] (script (codes "ranks 1" ∷ codes "0: ibarrier world -> r" ∷ codes "0: dup world -> r" ∷ [])) ≡ refused_at 3 NameTaken
  compared : reading [] (alone (codes "0: compare world world")) ≡ asks (Compare (codes "world") (codes "world"))
  one_compared : reading [] (alone (codes "0: compare world")) ≡ refused_at 2 WrongWords
  translated : reading [] (alone (codes "0: translate world world 0,null,2")) ≡ asks (Translate (codes "world") (codes "world") (Some (pos 0) ∷ None ∷ Some (pos 2) ∷ []))
  none_translated : reading [] (alone (codes "0: translate world world -")) ≡ asks (Translate (codes "world") (codes "world") [])
  undefined_translated : reading [] (alone (codes "0: translate world world 0,undefined")) ≡ refused_at 2 BadList
  null_in_a_list : reading [] (alone (codes "0: create world 0,null -> a")) ≡ refused_at 2 BadList
  own_operation : reading own_two (alone (codes "0: allreduce world affine 2int 3 -1")) ≡ says (record (blank (K.Reduction R.Allreduce)) { op = Own 0; ty = TwoInt; items = pos 3 ∷ negsuc 0 ∷ [] })
  second_own_operation : reading own_two (alone (codes "0: allreduce world later_2 i64 1")) ≡ says (record (blank (K.Reduction R.Allreduce)) { op = Own 1; ty = I64; items = pos 1 ∷ [] })
  own_operation_of_another_job : reading [] (alone (codes "0: allreduce world affine 2int 3 -1")) ≡ refused_at 2 UnknownStatement
  no_operation_of_this_job : reading own_two (alone (codes "0: allreduce world later_3 i64 1")) ≡ refused_at 2 UnknownStatement
  translated_to_nobody : reading [] (alone (codes "0: translate world a 0")) ≡ refused_at 2 NameUnknown

examples : Examples
unfolding script alone with_word own_two refused_at sum_of says makes asks barrier_as sum_as of_edges of_neighbours edge neighbour number_of magnitude words counts is_ascii ranks_number kind_named started_named local_named operation_named predefined_named place_named type_named list_named rank_named ranks_named label_of statements_in is_name colour_named edge_named neighbour_named is_weighted entries_in edges_graph neighbours_graph is_unknown_line on_form has_bad_name on_names names_rank statement_in reading
examples = record {
  three_ranks = refl;
  every_rank = refl;
  no_items = refl;
  root_and_count = refl;
  list_and_count = refl;
  no_counts = refl;
  operation_and_list = refl;
  passed_over = refl;
  too_many_ranks = refl;
  nothing = refl;
  strange_comment = refl;
  last_return = refl;
  no_rank = refl;
  no_statement = refl;
  no_type = refl;
  word_behind_barrier = refl;
  number_first = refl;
  list_for_a_count = refl;
  gap_in_a_list = refl;
  not_bound = refl;
  dup = refl;
  split = refl;
  no_colour = refl;
  create = refl;
  create_group = refl;
  edges = refl;
  weighted_edge = refl;
  no_edges = refl;
  no_weighted_edges = refl;
  neighbours = refl;
  weighted_neighbour = refl;
  mixed_edges = refl;
  mixed_neighbours = refl;
  edge_without_end = refl;
  edge_for_a_neighbour = refl;
  one_list_left_out = refl;
  bound_before = refl;
  bound_elsewhere = refl;
  bound_already = refl;
  bound_later = refl;
  world_again = refl;
  no_arrow = refl;
  list_left_out = refl;
  word_behind_name = refl;
  strange_colour = refl;
  tag_and_list = refl;
  strange_rank = refl;
  strange_name = refl;
  freed = refl;
  nonblocking_free = refl;
  word_behind_free = refl;
  bound_behind_free = refl;
  counts_of_neighbours = refl;
  lists_of_neighbours = refl;
  list_for_a_send_count = refl;
  asked = refl;
  word_behind_sources = refl;
  nonblocking_sources = refl;
  nonblocking_sum = refl;
  nonblocking_barrier = refl;
  nonblocking_neighbours = refl;
  request_for_an_operation = refl;
  request_for_a_type = refl;
  request_for_a_count = refl;
  no_request = refl;
  item_behind_barrier = refl;
  arrow_among_items = refl;
  request_of_a_blocking_call = refl;
  strange_request = refl;
  nonblocking_dup = refl;
  nonblocking_wait = refl;
  waits = refl;
  wait_for_nothing = refl;
  wait_for_two = refl;
  wait_for_no_name = refl;
  wait_for_nobody = refl;
  wait_for_a_communicator = refl;
  call_on_a_request = refl;
  request_taken = refl;
  request_like_world = refl;
  communicator_like_a_request = refl;
  compared = refl;
  one_compared = refl;
  translated = refl;
  none_translated = refl;
  undefined_translated = refl;
  null_in_a_list = refl;
  own_operation = refl;
  second_own_operation = refl;
  own_operation_of_another_job = refl;
  no_operation_of_this_job = refl;
  translated_to_nobody = refl;
}
