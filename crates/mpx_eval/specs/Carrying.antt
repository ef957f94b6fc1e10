-- What a table says as the carrier of ranks' posts.
use Rattle.std.specs.Prelude.{◌≡◌, ℕ, List, Some}
use Rattle.std.proofs.Common.{sym, ◌∙◌, subst}
use Rattle.mpx_num.specs.declared.own.Operation.{Operation}
use Rattle.mpx_name.specs.Name.{Name}
use Rattle.mpx_value.specs.Histories.{Answer}
use Rattle.mpx_meaning.specs.Ranks.{bound_by}
use Rattle.mpx_rank.specs.Carriers.{AtOnce, IsToldWithin, Terms, outcomes_of}
use Rattle.mpx_rank.specs.declared.interpreter.Interpreter.{Interpreter}
use Rattle.mpx_rank.specs.Shown.{rank_of}
use Rattle.mpx_rank.specs.Places.{CommunicatorView, attempt_by, bound_as}
use Rattle.mpx_eval.specs.Places.{IsBornSo, TableRank}
use Rattle.mpx_eval.specs.Tables.{Posted, TableShows, TableTries, answer_on, freed_on, table_of}
use Rattle.mpx_eval.specs.declared.table.Table.{Table}

-- the context and the number of a call
abbrev pub at_place : Name × ℕ → Name × ℕ
at_place place = place

-- what a rank of the code shows
abbrev pub shown : Interpreter Table CommunicatorView (Name × ℕ) → TableRank
shown rank = rank_of at_place rank

-- a call's outcome, once all members have posted to it, and the communicator that it gave; of a communicator how it came to be
-- is known, and whether a rank has freed it; a post is tried as the posts that the table shows and these operations allow; and nothing is heard of others but by the table
abbrev pub table_terms : List Operation → Terms Table CommunicatorView
table_terms ops = record {
  tells = λ t me. outcomes_of (answer_on ops (table_of t) me);
  gives = λ t me name call to. (answer : Answer) × (answer_on ops (table_of t) me name call ≡ Some answer) × (bound_as to ≡ bound_by answer.outcome answer.born);
  knows = λ t communicator. Some communicator;
  closes = λ t me communicator. freed_on (table_of t) me communicator.0;
  may = λ t me posting on. Unit {0};
  tries = λ t me posting on result u. AtOnce (λ answer. (ranks : ℕ) (made : Posted) → TableShows ops ranks (table_of t) made → IsBornSo ops ranks made on → TableTries ops ranks made me (attempt_by ops me (made me) posting on) answer (table_of u)) result;
  hears = λ t u. u ≡ t;
}

pub hears_no_more : List Operation → (a b c : Table) → b ≡ a → c ≡ b → c ≡ a
hears_no_more ops a b c e f = f ∙ e

pub stays_told : (ops : List Operation) (a b : Table) → b ≡ a → (me : ℕ) → IsToldWithin ((table_terms ops).tells a me) ((table_terms ops).tells b me)
stays_told ops a b e me name call outcome told = subst (λ t. (table_terms ops).tells t me name call ≡ Some outcome) (sym e) told
