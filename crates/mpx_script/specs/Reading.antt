-- What the text of a script says to a job with these operations of its own, or the least line that is refused, with its first refusal.
use Rattle.std.specs.Prelude.{ℕ, ◌+◌, nat_lt, Bool, false, not, ◌==◌, ◌||◌, ◌&&◌, List, [], ◌∷◌, length, take, map, slice_index_or, Option, Some, None, is_none, unwrap_or, sum_by, Result, Ok, Err, if◌then◌else◌}
use Rattle.std.specs.List.{filter_map, range_with_len}
use Rattle.std.specs.Option.{option_map, option_map_or}
use Rattle.mpx_num.specs.declared.own.Operation.{Operation}
use Rattle.mpx_script.specs.Words.{words, counts, counting, is_ascii, is_over_limit, script_lines}
use Rattle.mpx_script.specs.Grammar.{ranks_number}
use Rattle.mpx_script.specs.Syntax.{DirectiveSyntax, directive_in, label_in, statements_in, opening_ranks}
use Rattle.mpx_script.specs.Refusals.{is_past, is_unknown_line, on_form, has_wrong_words, has_bad_number, has_bad_list}
use Rattle.mpx_script.specs.Meanings.{line_gives}
use Rattle.mpx_script.specs.Naming.{BoundNames, has_bad_name, lacks_name, names_bound, on_names, takes_name}
use Rattle.mpx_script.specs.ScriptView.{ScriptView}
use Rattle.mpx_script.specs.declared.faults.ScriptFault.{ScriptFault}
use Rattle.mpx_script.specs.declared.faults.ScriptFault.TheVariants.{NotAscii, TooLarge, NoRanksLine, RanksOutOfRange, RankOutOfRange, UnknownStatement, WrongWords, BadNumber, BadList, BadName, NameUnknown, NameTaken}
use Rattle.mpx_script.specs.declared.faults.ScriptError.{ScriptError}

-- how many statements a script may have
abbrev pub statements_limit : ℕ
statements_limit = 65536

-- a line, with what the lines before it settle
pub record LineContext : Type 0 where
  pub line : List ℕ
  -- the script passes its limit of bytes in this line
  pub is_cut : Bool
  -- it is the first line of a script within that limit in which no line counts
  pub is_bare : Bool
  -- the number of ranks, once a line has told it
  pub ranks : Option ℕ
  -- how many statements there are so far
  pub statements : ℕ
  -- the names that each rank has bound so far
  pub bound : List BoundNames

-- the first line that counts
abbrev pub on_opening : LineContext → (List (List ℕ) → Bool) → Bool
on_opening p test = counts (words p.line) && is_none p.ranks && test (words p.line)

-- a further line that counts, in a script of so many ranks
abbrev pub on_further : LineContext → (ℕ → DirectiveSyntax → Bool) → Bool
on_further p test = counts (words p.line) && option_map_or (λ ranks. test ranks (directive_in (words p.line))) p.ranks false

-- what the line may be refused for, in the order in which that is asked
abbrev pub reading_refusals : List Operation → LineContext → List (ScriptFault × Bool)
reading_refusals ops p =
    (NotAscii, not (is_ascii p.line))
    ∷ (TooLarge, p.is_cut || on_further p (λ ranks directive. nat_lt statements_limit (p.statements + statements_in ranks directive)))
    ∷ (NoRanksLine, p.is_bare || on_opening p (λ words. is_none (ranks_number words)))
    ∷ (RanksOutOfRange, on_opening p (λ words. is_none (opening_ranks words)))
    ∷ (RankOutOfRange, on_further p (λ ranks directive. is_past ranks (label_in directive)))
    ∷ (UnknownStatement, on_further p (λ ranks directive. is_unknown_line ops directive))
    ∷ (WrongWords, on_further p (λ ranks directive. on_form (has_wrong_words ops) directive))
    ∷ (BadNumber, on_further p (λ ranks directive. on_form (has_bad_number ops) directive))
    ∷ (BadList, on_further p (λ ranks directive. on_form (has_bad_list ops) directive))
    ∷ (BadName, on_further p (λ ranks directive. has_bad_name ops directive))
    ∷ (NameUnknown, on_further p (on_names lacks_name ops p.bound))
    ∷ (NameTaken, on_further p (on_names takes_name ops p.bound))
    ∷ []

-- the first of these that holds
abbrev pub first_holding : List (ScriptFault × Bool) → Option ScriptFault
first_holding [] = None
first_holding (asked ∷ more) = if asked.1 then Some asked.0 else first_holding more

abbrev pub refusal : List Operation → LineContext → Option ScriptFault
refusal ops p = first_holding (reading_refusals ops p)

-- a line of a script that isn't bare
abbrev pub bounded_context : List ℕ → Bool → Option ℕ → ℕ → List BoundNames → LineContext
bounded_context line is_cut ranks statements bound = record { line = line; is_cut = is_cut; is_bare = false; ranks = ranks; statements = statements; bound = bound }

-- a line in which the limit of bytes isn't passed either
abbrev pub plain_context : List ℕ → Option ℕ → ℕ → List BoundNames → LineContext
plain_context line ranks statements bound = bounded_context line false ranks statements bound

-- the number of ranks that the first line that counts tells
abbrev pub ranks_told : List (List ℕ) → ℕ
ranks_told opening = unwrap_or (opening_ranks opening) 0

abbrev pub ranks_settled : List (List (List ℕ)) → Option ℕ
ranks_settled [] = None
ranks_settled (opening ∷ further) = Some (ranks_told opening)

-- how many statements the lines that count have
abbrev pub statements_settled : List (List (List ℕ)) → ℕ
statements_settled [] = 0
statements_settled (opening ∷ further) = sum_by (λ words. statements_in (ranks_told opening) (directive_in words)) further

-- the ranks, and what the further lines give each of them, in the order of the lines
abbrev pub script_of : List Operation → List (List (List ℕ)) → ScriptView
script_of ops [] = record { ranks = 0; statements = [] }
script_of ops (opening ∷ further) = record {
  ranks = ranks_told opening;
  statements = map (λ rank. filter_map (λ words. line_gives ops rank (directive_in words)) further) (range_with_len 0 (ranks_told opening));
}

-- the names that each rank has bound by the lines that count
abbrev pub bound_settled : List Operation → List (List (List ℕ)) → List BoundNames
bound_settled ops lines = map names_bound (script_of ops lines).statements

-- no line of the script counts, though it is within its limit of bytes
abbrev pub is_bare_script : List ℕ → Bool
is_bare_script text = not (is_over_limit text) && (length (counting (script_lines text)) == 0)

-- the line at a place from 0 on
abbrev pub context_at : List Operation → List ℕ → ℕ → LineContext
context_at ops text i =
    let all = script_lines text in
    let before = counting (take i all) in
    record {
      line = slice_index_or all i [];
      is_cut = is_over_limit text && (i + 1 == length all);
      is_bare = (i == 0) && (not (is_over_limit text) && (length (counting all) == 0));
      ranks = ranks_settled before;
      statements = statements_settled before;
      bound = map names_bound (script_of ops before).statements;
    }

-- the refusal of the line at a place, with the line's number from 1 on
abbrev pub error_at : List Operation → List ℕ → ℕ → Option ScriptError
error_at ops text i = option_map (λ what. record { line = i + 1; what = what }) (first_holding (reading_refusals ops (context_at ops text i)))

-- the lines that are refused
abbrev pub errors : List Operation → List ℕ → List ScriptError
errors ops text = filter_map (error_at ops text) (range_with_len 0 (length (script_lines text)))

-- the first error, or what the script says
abbrev pub read_as : List ScriptError → ScriptView → Result ScriptView ScriptError
read_as [] script = Ok script
read_as (first ∷ more) script = Err first

unfoldable pub reading : List Operation → List ℕ → Result ScriptView ScriptError
reading ops text = read_as (errors ops text) (script_of ops (counting (script_lines text)))
