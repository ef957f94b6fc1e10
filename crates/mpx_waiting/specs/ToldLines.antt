-- The lines that tell who waits.
use Rattle.std.specs.Prelude.{ℕ, zero, suc, ◌+◌, ◌-◌, ◌==◌, Bool, true, false, ◌&&◌, List, [], ◌∷◌, ◌++◌, bytes_eq, codes, cond, if◌then◌else◌, length, map, slice_get, slice_index_or, take, Option, Some, None, unwrap_or}
use Rattle.std.specs.Fmt.{decimal}
use Rattle.std.specs.List.{flat_map}
use Rattle.mpx_eval.specs.declared.missing.MissingMember.{MissingMember}
use Rattle.mpx_eval.specs.Complaints.{started_at}
use Rattle.mpx_eval.specs.Waiting.{MissingCallView, WaitingView}
use Rattle.mpx_script.specs.LinesGiven.{lines_given, words_at}
use Rattle.mpx_statement.specs.declared.statement.Statement.{Statement}
use Rattle.mpx_waiting.specs.declared.members.Whereabouts.{Whereabouts}
use Rattle.mpx_waiting.specs.declared.members.Whereabouts.TheVariants as P

-- PLACES

-- of a rank's statements with these lines the line of the one with this place, or 0 where there is none
abbrev pub line_at : (numbers : List ℕ) (statement : ℕ) → ℕ
line_at numbers statement = slice_index_or numbers statement 0

-- a rank that waits, and the line at which it does
abbrev pub place_of : (text : List ℕ) → WaitingView → ℕ × ℕ
place_of text w = (w.rank, line_at (lines_given w.rank text) w.statement)

-- WHO WAITS

-- the word with this place in a line, from 0 on
abbrev pub word_in : (text : List ℕ) (line place : ℕ) → List ℕ
word_in text line place = unwrap_or (slice_get (words_at text line) place) []

-- of a call its own word
abbrev pub second_word : (text : List ℕ) (line : ℕ) → List ℕ
second_word text line = word_in text line 1

-- what tells calls of this word on one communicator apart: of `create_group` the tag and the ranks
abbrev pub apart_words : (text : List ℕ) (line : ℕ) → List ℕ
apart_words text line =
    if bytes_eq (second_word text line) (codes "create_group") then codes " " ++ word_in text line 3 ++ codes " " ++ word_in text line 4 else
    []

-- a call's own word, its communicator's, and those
abbrev pub call_words : (text : List ℕ) (line : ℕ) → List ℕ
call_words text line = second_word text line ++ codes " " ++ word_in text line 2 ++ apart_words text line

-- a request that is waited for at a line, and the call that stands in the line in which it is started
abbrev pub request_text : (text : List ℕ) (line : ℕ) (request : List ℕ) (started : ℕ) → List ℕ
request_text text line request started = second_word text line ++ codes " " ++ request ++ codes ", for " ++ call_words text started ++ codes " of line " ++ decimal started

-- the call that is waited for at a line: its own, or that of a request of the rank with these statements and their lines
abbrev pub what_text : (text : List ℕ) → List Statement → (numbers : List ℕ) (line : ℕ) → Option (List ℕ) → List ℕ
what_text text statements numbers line None = call_words text line
what_text text statements numbers line (Some request) = request_text text line request (line_at numbers (started_at statements request))

-- the line at which a rank waits, or none where it is at its end
abbrev pub standing : (places : List (ℕ × ℕ)) → (rank : ℕ) → Option ℕ
standing [] rank = None
standing (place ∷ places) rank = cond (place.0 == rank) (Some place.1) (standing places rank)

abbrev pub place_at : Option ℕ → Whereabouts
place_at None = P.Finished
place_at (Some line) = P.Line line

-- where a member stands that has not posted: it has freed the communicator, or else it is at its end, or waits at a line
abbrev pub place_in : (places : List (ℕ × ℕ)) → MissingMember → Whereabouts
place_in places member = cond member.closed P.Closed (place_at (standing places member.rank))

abbrev pub place_text : Whereabouts → List ℕ
place_text P.Closed = codes "closed"
place_text P.Finished = codes "finished"
place_text (P.Line line) = codes "at line " ++ decimal line

-- ranks, and where they stand
abbrev pub placed_text : (ranks : List ℕ) → Whereabouts → List ℕ
placed_text ranks place = ranks ++ codes " (" ++ place_text place ++ codes ")"

abbrev pub member_text : (places : List (ℕ × ℕ)) → MissingMember → List ℕ
member_text places member = placed_text (codes "rank " ++ decimal member.rank) (place_in places member)

-- members in a row that stand at one place, from the first to the last
abbrev pub row_text : (places : List (ℕ × ℕ)) → (first last : MissingMember) → List ℕ
row_text places first last =
    if first.rank == last.rank then member_text places last else
    if first.rank + 1 == last.rank then member_text places first ++ codes ", " ++ member_text places last else
    placed_text (codes "ranks " ++ decimal first.rank ++ codes " to " ++ decimal last.rank) (place_in places last)

abbrev pub is_same_place : Whereabouts → Whereabouts → Bool
is_same_place P.Closed P.Closed = true
is_same_place P.Closed P.Finished = false
is_same_place P.Closed (P.Line line) = false
is_same_place P.Finished P.Closed = false
is_same_place P.Finished P.Finished = true
is_same_place P.Finished (P.Line line) = false
is_same_place (P.Line line) P.Closed = false
is_same_place (P.Line line) P.Finished = false
is_same_place (P.Line one) (P.Line other) = one == other

-- a member is the next rank, and stands where that one does
abbrev pub follows : (places : List (ℕ × ℕ)) → (last member : MissingMember) → Bool
follows places last member = (last.rank + 1 == member.rank) && is_same_place (place_in places last) (place_in places member)

-- members, of which those from the first to the last are in a row so far
abbrev pub rows_text : (places : List (ℕ × ℕ)) → (first last : MissingMember) → List MissingMember → List ℕ
rows_text places first last [] = row_text places first last
rows_text places first last (member ∷ more) =
    if follows places last member then rows_text places first member more else
    row_text places first last ++ codes ", " ++ rows_text places member member more

-- members with commas between
abbrev pub members_text : (places : List (ℕ × ℕ)) → List MissingMember → List ℕ
members_text places [] = []
members_text places (member ∷ more) = rows_text places member member more

-- how a line begins that tells of a rank at a line
abbrev pub start_text : (rank line : ℕ) → List ℕ
start_text rank line = codes "rank " ++ decimal rank ++ codes ", line " ++ decimal line ++ codes ": "

-- and how it ends
abbrev pub end_text : (places : List (ℕ × ℕ)) → (call : ℕ) → (missing : List MissingMember) → List ℕ
end_text places call missing = codes ", call " ++ decimal call ++ codes ": waits for " ++ members_text places missing ++ codes "\n"

-- the whole line, of a rank with these statements and their lines
abbrev pub call_text : (text : List ℕ) → List Statement → (numbers : List ℕ) → (places : List (ℕ × ℕ)) → (rank line : ℕ) → MissingCallView → List ℕ
call_text text statements numbers places rank line c = start_text rank line ++ what_text text statements numbers line c.request ++ end_text places c.call c.missing

-- those of a rank, at most so many
abbrev pub rank_text : (text : List ℕ) → List (List Statement) → (places : List (ℕ × ℕ)) → (most : ℕ) → WaitingView → List ℕ
rank_text text statements places most w =
    flat_map (call_text text (slice_index_or statements w.rank []) (lines_given w.rank text) places w.rank (line_at (lines_given w.rank text) w.statement)) (take most w.calls)

-- those of these ranks, at most so many in all
abbrev pub ranks_text : (text : List ℕ) → List (List Statement) → (places : List (ℕ × ℕ)) → (most : ℕ) → List WaitingView → List ℕ
ranks_text text statements places most [] = []
ranks_text text statements places most (w ∷ found) = rank_text text statements places most w ++ ranks_text text statements places (most - length w.calls) found

-- how many there are
abbrev pub calls_in : List WaitingView → ℕ
calls_in [] = 0
calls_in (w ∷ found) = length w.calls + calls_in found

-- that there are so many more
abbrev pub more_text : ℕ → List ℕ
more_text zero = []
more_text (suc n) = codes "and " ++ decimal (suc n) ++ codes " more\n"

-- of all that wait, at most a hundred, and how many more there are
abbrev pub waiting_told : (text : List ℕ) → List (List Statement) → List WaitingView → List ℕ
waiting_told text statements found = ranks_text text statements (map (place_of text) found) 100 found ++ more_text (calls_in found - 100)
