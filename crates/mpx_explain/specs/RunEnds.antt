-- Where ranks wait in a run that ended early: by how each rank ended, and by what their own processes know.
use Rattle.std.specs.Prelude.{◌≡◌, ℕ, zero, suc, ◌-◌, ◌&&◌, ◌||◌, nat_le, nat_lt, Bool, false, cond, is_some, List, [], ◌∷◌, ◌++◌, codes, length, slice_get, slice_index_or, map, Option, Some, None, option_and_then}
use Rattle.std.specs.Borrow.{Bor}
use Rattle.std.specs.Fmt.{decimal}
use Rattle.std.specs.List.{flat_map, list_any}
use Rattle.std.specs.Option.{option_map, option_map_or, option_or, option_to_list}
use Rattle.mpx_name.specs.Name.{Name, same_name}
use Rattle.mpx_birth.specs.Births.{BirthView}
use Rattle.mpx_post.specs.Posts.{Given}
use Rattle.mpx_board.specs.Boards.{told}
use Rattle.mpx_node.specs.Nodes.{NodeView, freed_on, front_on, posted_on}
use Rattle.mpx_node.specs.Shown.{node_of}
use Rattle.mpx_node.specs.declared.node.Node.{Node}
use Rattle.mpx_statement.specs.declared.statement.Statement.{Statement}
use Rattle.mpx_meaning.specs.Ends.{Asked, WaitsAtView, end_view}
use Rattle.mpx_meaning.specs.declared.end.RankEnd.{RankEnd}
use Rattle.mpx_script.specs.LinesGiven.{lines_given}
use Rattle.mpx_eval.specs.Found.{missing_view, waiting_view}
use Rattle.mpx_eval.specs.Waiting.{MissingCallView, WaitingView}
use Rattle.mpx_eval.specs.declared.missing.MissingMember.{MissingMember}
use Rattle.mpx_waiting.specs.ToldLines.{line_at, members_text, place_of, start_text, waiting_told, word_in}
use Rattle.mpx_explain.specs.declared.ended.EndedRun.{EndedRun}
use Rattle.mpx_explain.specs.declared.end_lines.Placed.{Placed}
use Rattle.mpx_explain.specs.declared.ends.RunEnd.{RunEnd}
use Rattle.mpx_explain.specs.declared.firsts.EarlierCall.{EarlierCall}

-- WHERE A RANK WAITS

abbrev pub statements_of_rank : EndedRun → (rank : ℕ) → List Statement
statements_of_rank run rank = slice_index_or run.script.now.statements rank []

-- where a rank waits by its end: how many of its statements are left there, and which calls are asked for
abbrev pub waits_in : EndedRun → (rank : ℕ) → Option WaitsAtView
waits_in run rank = option_and_then (λ (end : RankEnd). (end_view end).waits) (slice_get run.ends.now rank)

-- the place of the statement at which so many are left
abbrev pub place_with : EndedRun → (rank : ℕ) → WaitsAtView → ℕ
place_with run rank w = length (statements_of_rank run rank) - w.left

-- WHOSE POSTS A BOARD LACKS

-- the process of a rank
abbrev pub process_of : EndedRun → (rank : ℕ) → Option NodeView
process_of run rank = option_map (λ (node : Bor Node). node_of node.now) (slice_get run.nodes.now rank)

-- whether a process has posted a free on a context, and no post to this call before it, by its own node
abbrev pub has_closed : EndedRun → Name → (call process : ℕ) → Bool
has_closed run name call p = option_map_or (λ (node : Bor Node). freed_on (node_of node.now) name && nat_le (posted_on (node_of node.now) name) call) (slice_get run.nodes.now p) false

abbrev pub member_of : EndedRun → Name → (call process : ℕ) → MissingMember
member_of run name call p = record { rank = p; closed = has_closed run name call p }

abbrev pub unless_held : MissingMember → Option Given → List MissingMember
unless_held member None = member ∷ []
unless_held member (Some post) = []

-- a member, where a process's own board has no post of it to a call
abbrev pub lacked_of : EndedRun → NodeView → Name → (call process : ℕ) → List MissingMember
lacked_of run node name call p = unless_held (member_of run name call p) (told ((node.board.contexts name).posts call p))

abbrev pub lacked_in : EndedRun → NodeView → Name → (call : ℕ) → Option BirthView → List MissingMember
lacked_in run node name call None = []
lacked_in run node name call (Some birth) = flat_map (lacked_of run node name call) birth.members

-- all members whose posts to a call a process's own board lacks, in rank order; none where it doesn't know the context's birth
abbrev pub lacked_by : EndedRun → NodeView → Name → (call : ℕ) → List MissingMember
lacked_by run node name call = lacked_in run node name call (told (node.board.contexts name).birth)

-- a call with the members whose posts to it are lacking, where there are some
abbrev pub with_missing : (request : Option (List ℕ)) → Name → (call : ℕ) → List MissingMember → Option MissingCallView
with_missing request name call [] = None
with_missing request name call (member ∷ more) = Some (record { request = request; name = name; call = call; missing = member ∷ more })

-- a call of which a process has no result, and whose posts to it its own board lacks, where it lacks some
abbrev pub lacking_at : EndedRun → NodeView → (request : Option (List ℕ)) → Name → (call : ℕ) → Option MissingCallView
lacking_at run node request name call = cond (nat_lt call (front_on node name)) None (with_missing request name call (lacked_by run node name call))

-- the same of one that is asked for
abbrev pub lacking_of : EndedRun → NodeView → Asked → List MissingCallView
lacking_of run node a = option_to_list (lacking_at run node a.0 a.1.0 a.1.1)

-- those of the calls that a rank with this process asks for
abbrev pub calls_of : EndedRun → Option NodeView → List Asked → List MissingCallView
calls_of run None asked = []
calls_of run (Some node) asked = flat_map (lacking_of run node) asked

-- WHICH CALL COMES FIRST

-- of the first so many calls on a context the first one of which a process has no result, and whose posts its board lacks
abbrev pub first_lacking : EndedRun → NodeView → Name → (calls : ℕ) → Option MissingCallView
first_lacking run node name zero = None
first_lacking run node name (suc call) = option_or (first_lacking run node name call) (lacking_at run node None name call)

-- a rank that waits, the place of its statement, and an earlier call that comes first
pub record FirstView : Type 0 where
  pub rank : ℕ
  pub statement : ℕ
  pub call : MissingCallView

abbrev pub first_at : (place : ℕ × ℕ) → MissingCallView → FirstView
first_at place call = record { rank = place.0; statement = place.1; call = call }

-- one of these is on this context
abbrev pub is_told_on : Name → List FirstView → Bool
is_told_on name told = list_any (λ (f : FirstView). same_name f.call.name name) told

-- what comes before a call that is asked for: nothing where that lacks posts itself, or where one on its context is told already
abbrev pub before_asked : EndedRun → NodeView → (told : List FirstView) → Asked → Option MissingCallView
before_asked run node told a = cond (is_some (lacking_at run node a.0 a.1.0 a.1.1) || is_told_on a.1.0 told) None (first_lacking run node a.1.0 a.1.1)

-- behind those that are told, what comes before one that is asked for at this place
abbrev pub with_first : EndedRun → NodeView → (place : ℕ × ℕ) → (told : List FirstView) → Asked → List FirstView
with_first run node place told a = told ++ option_to_list (option_map (first_at place) (before_asked run node told a))

-- and what comes before these: of each context one
abbrev pub with_firsts : EndedRun → NodeView → (place : ℕ × ℕ) → (told : List FirstView) → List Asked → List FirstView
with_firsts run node place told [] = told
with_firsts run node place told (a ∷ asked) = with_firsts run node place (with_first run node place told a) asked

-- those that come before the calls that a rank with this process asks for
abbrev pub firsts_of : EndedRun → (place : ℕ × ℕ) → Option NodeView → List Asked → List FirstView
firsts_of run place None asked = []
firsts_of run place (Some node) asked = with_firsts run node place [] asked

-- WHO WAITS

-- where a rank waits: at which statement, and for which calls whose posts its board lacks
abbrev pub waits_at : EndedRun → (rank : ℕ) → WaitsAtView → WaitingView
waits_at run rank w = record { rank = rank; statement = place_with run rank w; calls = calls_of run (process_of run rank) w.calls }

-- the calls that come first where a rank waits
abbrev pub firsts_at : EndedRun → (rank : ℕ) → WaitsAtView → List FirstView
firsts_at run rank w = firsts_of run (rank, place_with run rank w) (process_of run rank) w.calls

-- a place, where a rank asks there for calls, none of them lacks posts, and none comes first
abbrev pub served_by : (place : ℕ × ℕ) → List Asked → List MissingCallView → List FirstView → List (ℕ × ℕ)
served_by place [] lacking firsts = []
served_by place (a ∷ asked) [] [] = place ∷ []
served_by place (a ∷ asked) [] (first ∷ firsts) = []
served_by place (a ∷ asked) (call ∷ lacking) firsts = []

-- a place, where a rank asks there for no call's outcome
abbrev pub unmade_by : (place : ℕ × ℕ) → List Asked → List (ℕ × ℕ)
unmade_by place [] = place ∷ []
unmade_by place (a ∷ asked) = []

abbrev pub served_at : EndedRun → (rank : ℕ) → WaitsAtView → List (ℕ × ℕ)
served_at run rank w = served_by (rank, place_with run rank w) w.calls (calls_of run (process_of run rank) w.calls) (firsts_at run rank w)

abbrev pub unmade_at : EndedRun → (rank : ℕ) → WaitsAtView → List (ℕ × ℕ)
unmade_at run rank w = unmade_by (rank, place_with run rank w) w.calls

-- what is told of a rank, if it waits
abbrev pub told_of : {A : Type 0} → EndedRun → (rank : ℕ) → (told : WaitsAtView → List A) → List A
told_of run rank told = option_map_or told (waits_in run rank) []

-- of the first so many ranks, in their order
abbrev pub told_upto : {A : Type 0} → EndedRun → (told : (rank : ℕ) → WaitsAtView → List A) → (ranks : ℕ) → List A
told_upto run told zero = []
told_upto run told (suc n) = told_upto run told n ++ told_of run n (told n)

abbrev pub first_view : EarlierCall → FirstView
first_view e = record { rank = e.rank; statement = e.statement; call = missing_view e.call }

-- just those are told that wait in a run, in rank order, each at its statement with just those of the calls that are asked for there whose posts the rank's own
-- board lacks, and whose; with the calls that come first; the ranks that ask for calls and lack no post of these, and of none that comes first; and those that ask for none
pub record TellsRun (run : EndedRun) (end : RunEnd) : Type 0 where
  pub waiting : map waiting_view end.waiting.items ≡ told_upto run (λ rank w. waits_at run rank w ∷ []) run.script.now.ranks
  pub earlier : map first_view end.earlier.items ≡ told_upto run (firsts_at run) run.script.now.ranks
  pub served : end.served.items ≡ told_upto run (served_at run) run.script.now.ranks
  pub unmade : end.unmade.items ≡ told_upto run (unmade_at run) run.script.now.ranks

-- LINES

-- a call's own word, and its communicator's, as they stand in a line
abbrev pub line_words : (text : List ℕ) → (line : ℕ) → List ℕ
line_words text line = word_in text line 1 ++ codes " " ++ word_in text line 2

-- the same of the statement that made an earlier call, and its line, where it is known
abbrev pub made_words : (text : List ℕ) → (made : Option ℕ) → List ℕ
made_words text None = []
made_words text (Some line) = line_words text line ++ codes " of line " ++ decimal line ++ codes ", "

-- its number
abbrev pub number_words : (call : ℕ) → List ℕ
number_words call = codes "call " ++ decimal call ++ codes ": waits for "

-- a rank that waits at a line, the line of the statement that made an earlier call, where it is known, and whose posts of that are lacking
pub record EarlierView : Type 0 where
  pub rank : ℕ
  pub line : ℕ
  pub made : Option ℕ
  pub call : MissingCallView

abbrev pub earlier_view : (text : List ℕ) → EarlierCall → EarlierView
earlier_view text e = record { rank = e.rank; line = line_at (lines_given e.rank text) e.statement; made = option_map (line_at (lines_given e.rank text)) e.made; call = missing_view e.call }

-- what the program's value shows of it
abbrev pub placed_view : Placed → EarlierView
placed_view p = record { rank = p.rank; line = p.line; made = p.made; call = missing_view p.call.now }

-- an earlier call by the line of its statement, and whose posts of it are lacking
abbrev pub first_text : (text : List ℕ) → (places : List (ℕ × ℕ)) → (made : Option ℕ) → MissingCallView → List ℕ
first_text text places made c = codes "first comes " ++ made_words text made ++ number_words c.call ++ members_text places c.missing ++ codes "\n"

abbrev pub earlier_text : (text : List ℕ) → (places : List (ℕ × ℕ)) → EarlierView → List ℕ
earlier_text text places e = start_text e.rank e.line ++ first_text text places e.made e.call

-- a rank, the line of its statement with this place, and what is told of it there
abbrev pub standing_text : (text what : List ℕ) → ℕ × ℕ → List ℕ
standing_text text what place = start_text place.0 (line_at (lines_given place.0 text) place.1) ++ what

-- where ranks wait, a line for each call; then those that come first; then the ranks whose boards lack no post; then those that have not come to their statement
abbrev pub run_text : (text : List ℕ) → EndedRun → RunEnd → List ℕ
run_text text run end =
    waiting_told text run.script.now.statements (map waiting_view end.waiting.items)
    ++ flat_map (earlier_text text (map (place_of text) (map waiting_view end.waiting.items))) (map (earlier_view text) end.earlier.items)
    ++ flat_map (standing_text text (codes "all posts have come, and the run ended before it went on\n")) end.served.items
    ++ flat_map (standing_text text (codes "the run ended before this line\n")) end.unmade.items

-- these lines are told of a run behind others
pub record IsRunTold (text : List ℕ) (run : EndedRun) (old new : List ℕ) : Type 0 where
  pub end : RunEnd
  pub tells : TellsRun run end
  pub told : new ≡ old ++ run_text text run end
