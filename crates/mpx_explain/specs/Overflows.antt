-- Results that are past their signed type, by what the statements of one call on `world` give.
use Rattle.std.specs.Prelude.{◌≡◌, ℕ, zero, suc, ◌+◌, ◌-◌, ◌*◌, ◌^◌, ◌≤◌, nat_le, nat_lt, ◌==◌, ◌&&◌, ◌||◌, not, Bool, true, false, cond, List, [], ◌∷◌, ◌++◌, bytes_eq, codes, is_some, length, map, slice_get, slice_index_or, take, Option, Some, None, option_and_then, ℤ, pos, negsuc, ◌+ℤ◌, ◌*ℤ◌, unsigned_abs}
use Rattle.std.specs.List.{AllZip, filter, flat_map, list_all, list_any, range_with_len, sum}
use Rattle.std.specs.Option.{option_map, option_map_or, option_or, option_to_list}
use Rattle.std.specs.Ordering.{int_eq}
use Rattle.mpx_num.specs.Text.{number_text}
use Rattle.mpx_num.specs.Wrapping.{into_range}
use Rattle.mpx_num.specs.declared.operations.Op.{Op}
use Rattle.mpx_num.specs.declared.operations.Op.TheVariants.{Sum, Prod}
use Rattle.mpx_num.specs.declared.types.Ty.{Ty}
use Rattle.mpx_num.specs.declared.types.Ty.TheVariants as T
use Rattle.mpx_kind.specs.declared.kinds.Call.{Call}
use Rattle.mpx_kind.specs.declared.kinds.Call.TheVariants as C
use Rattle.mpx_kind.specs.declared.kinds.Reduction.{Reduction}
use Rattle.mpx_kind.specs.declared.kinds.Reduction.TheVariants.{Reduce, ReduceScatterBlock, ReduceScatter, Scan, Exscan}
use Rattle.mpx_post.specs.Agreement.{count_at}
use Rattle.mpx_post.specs.Drafts.{is_count, is_of, naturals}
use Rattle.mpx_post.specs.declared.draft.Draft.{Draft}
use Rattle.mpx_statement.specs.Statements.{communicator_word, draft_of}
use Rattle.mpx_statement.specs.declared.statement.Posting.TheVariants.{CreateGroup}
use Rattle.mpx_statement.specs.declared.statement.Statement.{Statement}
use Rattle.mpx_statement.specs.declared.statement.Statement.TheVariants.{Post}
use Rattle.mpx_script.specs.LinesGiven.{lines_given}
use Rattle.mpx_script.specs.ScriptView.{ScriptView}
use Rattle.mpx_eval.specs.Complaints.{ComplaintView}
use Rattle.mpx_eval.specs.Found.{complaint_view, waiting_view}
use Rattle.mpx_eval.specs.Waiting.{WaitingView}
use Rattle.mpx_eval.specs.declared.findings.Findings.{Findings}
use Rattle.mpx_waiting.specs.ToldLines.{line_at, more_text, start_text}
use Rattle.mpx_explain.specs.declared.overflows.Overflow.{Overflow}

-- WHO HAS POSTED TO A CALL

-- what a statement posts on `world`; one of `create_group` posts on a gathering
abbrev pub draft_by : Statement → Option Draft
draft_by (Post (CreateGroup on tag ranks to)) = None
draft_by (Post posting) = cond (bytes_eq (communicator_word posting) (codes "world")) (Some (draft_of posting)) None
draft_by statement = None

-- the same of the statement with this place among a rank's
abbrev pub posted_at : List (List Statement) → (rank place : ℕ) → Option Draft
posted_at statements rank place = option_and_then draft_by (slice_get (slice_index_or statements rank []) place)

-- a script's statements, and what its evaluation has found
pub record Evaluated : Type 0 where
  pub statements : List (List Statement)
  pub waiting : List WaitingView
  pub complaints : List ComplaintView
  pub unheard : List ComplaintView

abbrev pub evaluated : ScriptView → Findings → Evaluated
evaluated script found = record { statements = script.statements; waiting = map waiting_view found.waiting.items; complaints = map complaint_view found.complaints.items; unheard = map complaint_view found.unheard.items }

-- one of these is of the rank's statement with this place
abbrev pub is_named_at : (rank place : ℕ) → List ComplaintView → Bool
is_named_at rank place complaints = list_any (λ (c : ComplaintView). (c.rank == rank) && (c.statement == place)) complaints

-- the rank waits before this place
abbrev pub waits_before : (rank place : ℕ) → List WaitingView → Bool
waits_before rank place waiting = list_any (λ (w : WaitingView). (w.rank == rank) && nat_lt w.statement place) waiting

-- the rank's statement with this place has posted on `world`: its rank has come there, and it neither was refused nor is its call a fault
abbrev pub has_posted : Evaluated → (rank place : ℕ) → Bool
has_posted e rank place = is_some (posted_at e.statements rank place) && not (waits_before rank place e.waiting || (is_named_at rank place e.complaints || is_named_at rank place e.unheard))

-- the places of a rank's statements that have, in their order. A fault is one for each rank: so the posts of all ranks with one number make one call
abbrev pub posts_of : Evaluated → (rank : ℕ) → List ℕ
posts_of e rank = filter (has_posted e rank) (range_with_len 0 (length (slice_index_or e.statements rank [])))

-- the same of each rank
abbrev pub Posts : Type 0
Posts = List (List ℕ)

abbrev pub all_posts : Evaluated → Posts
all_posts e = map (posts_of e) (range_with_len 0 (length e.statements))

-- each rank has posted to the call of this number
abbrev pub is_posted : Posts → (call : ℕ) → Bool
is_posted posts call = list_all (λ (places : List ℕ). nat_lt call (length places)) posts

-- WHAT THEY GIVE

-- the place of a rank's statement that has posted to the call of this number
abbrev pub post_to : Posts → (call rank : ℕ) → Option ℕ
post_to posts call rank = slice_get (slice_index_or posts rank []) call

-- what a rank posts to it
abbrev pub draft_to : List (List Statement) → Posts → (call rank : ℕ) → Option Draft
draft_to statements posts call rank = option_and_then (posted_at statements rank) (post_to posts call rank)

-- which of its numbers has this index
abbrev pub given_to : List (List Statement) → Posts → (call index rank : ℕ) → Option ℤ
given_to statements posts call index rank = option_and_then (λ (draft : Draft). slice_get draft.items index) (draft_to statements posts call rank)

abbrev pub is_summed : Op → Bool
is_summed Sum = true
is_summed Prod = true
is_summed op = false

abbrev pub is_signed : Ty → Bool
is_signed T.I8 = true
is_signed T.I16 = true
is_signed T.I32 = true
is_signed T.I64 = true
is_signed ty = false

abbrev pub reduction_in : Call → Option Reduction
reduction_in (C.Reduction reduction mode) = Some reduction
reduction_in call = None

-- of which kind it is, where it is a sum or product of signed numbers, with counts within their limit
abbrev pub summed_in : Draft → Option Reduction
summed_in draft = cond ((is_signed draft.ty && is_summed draft.op) && list_all is_count draft.rcounts) (reduction_in draft.call) None

-- EXACT SUMS AND PRODUCTS

abbrev pub is_product : Op → Bool
is_product Prod = true
is_product op = false

-- a whole number, where it has 128 bits with a sign
abbrev pub kept : ℤ → Option ℤ
kept (pos n) = cond (nat_lt n (2 ^ 127)) (Some (pos n)) None
kept (negsuc n) = cond (nat_lt n (2 ^ 127)) (Some (negsuc n)) None

-- two numbers, without wrapping. A sum past 128 bits isn't told: a rank gives numbers of 64
abbrev pub combined_kept : (is_product : Bool) → ℤ → ℤ → Option ℤ
combined_kept true x y = Some (x *ℤ y)
combined_kept false x y = kept (x +ℤ y)

-- a number that changes none
abbrev pub neutral : (is_product : Bool) → ℤ
neutral true = pos 1
neutral false = pos 0

-- what the first so many ranks give, combined
abbrev pub exact_upto : (is_product : Bool) → (given : (rank : ℕ) → Option ℤ) → (ranks : ℕ) → Option ℤ
exact_upto is_product given zero = Some (neutral is_product)
exact_upto is_product given (suc rank) = option_and_then (λ before. option_and_then (combined_kept is_product before) (given rank)) (exact_upto is_product given rank)

-- of the first how many of so many ranks a rank gets what they give, combined
abbrev pub taken : Reduction → (ranks rank : ℕ) → ℕ
taken Scan ranks rank = rank + 1
taken Exscan ranks rank = rank
taken reduction ranks rank = ranks

-- WHAT IS PAST ITS TYPE

-- from which number on a rank gets them, and up to which: of a reduction to a root that gets all, of a scattered one each rank its block
abbrev pub bounds_of : Reduction → Draft → (rank : ℕ) → ℕ × ℕ
bounds_of Reduce draft rank = (0, cond (int_eq draft.root (pos rank)) (length draft.items) 0)
bounds_of ReduceScatterBlock draft rank = (rank * count_at (naturals draft.rcounts) 0, rank * count_at (naturals draft.rcounts) 0 + count_at (naturals draft.rcounts) 0)
bounds_of ReduceScatter draft rank = (sum (take rank (naturals draft.rcounts)), sum (take rank (naturals draft.rcounts)) + count_at (naturals draft.rcounts) rank)
bounds_of reduction draft rank = (0, length draft.items)

-- a number, where it isn't one of the type
abbrev pub past_type : Ty → Option ℤ → Option ℤ
past_type ty None = None
past_type ty (Some z) = cond (is_of ty z) None (Some z)

-- the same of one with this index, where that is within these bounds
abbrev pub past_there : Ty → (bounds : ℕ × ℕ) → (index : ℕ) → Option ℤ → Option ℤ
past_there ty bounds index comes = cond (nat_le bounds.0 index && nat_lt index bounds.1) (past_type ty comes) None

-- the first of so many numbers, within these bounds, that isn't one of the type
abbrev pub first_past : Ty → (bounds : ℕ × ℕ) → (comes : (index : ℕ) → Option ℤ) → (numbers : ℕ) → Option ℤ
first_past ty bounds comes zero = None
first_past ty bounds comes (suc index) = option_or (first_past ty bounds comes index) (past_there ty bounds index (comes index))

-- of a rank's result: at which statement, of which type, and what the first such number comes to
pub record PastView : Type 0 where
  pub rank : ℕ
  pub statement : ℕ
  pub ty : Ty
  pub whole : ℤ

-- the first number of a rank's result that is past its type, where rank 0 posts this to the call of this number. There are as many as rank 0 gives
abbrev pub past_number : List (List Statement) → Posts → (call : ℕ) → Draft → Reduction → (rank : ℕ) → Option ℤ
past_number statements posts call draft reduction rank =
    first_past draft.ty (bounds_of reduction draft rank) (λ index. exact_upto (is_product draft.op) (given_to statements posts call index) (taken reduction (length statements) rank)) (length draft.items)

abbrev pub past_at : (rank statement : ℕ) → Ty → ℤ → PastView
past_at rank statement ty whole = record { rank = rank; statement = statement; ty = ty; whole = whole }

abbrev pub past_by : List (List Statement) → Posts → (call : ℕ) → Draft → Reduction → (rank : ℕ) → List PastView
past_by statements posts call draft reduction rank =
    option_to_list (option_and_then (λ statement. option_map (past_at rank statement draft.ty) (past_number statements posts call draft reduction rank)) (post_to posts call rank))

-- those of all ranks' results, in rank order
abbrev pub past_in_row : List (List Statement) → Posts → (call : ℕ) → Draft → List PastView
past_in_row statements posts call draft = option_map_or (λ reduction. flat_map (past_by statements posts call draft reduction) (range_with_len 0 (length statements))) (summed_in draft) []

-- those of the call of this number, where each rank has posted to it
abbrev pub past_in_call : List (List Statement) → Posts → (call : ℕ) → List PastView
past_in_call statements posts call = cond (is_posted posts call) (option_map_or (past_in_row statements posts call) (draft_to statements posts call 0) []) []

-- those of all calls, call by call
abbrev pub all_past : List (List Statement) → Posts → List PastView
all_past statements posts = flat_map (past_in_call statements posts) (range_with_len 0 (length (slice_index_or posts 0 [])))

-- a number of 128 bits with a sign, or one that is further from 0
abbrev pub IsKnownAs : Option ℤ → ℤ → Type 0
IsKnownAs (Some z) whole = z ≡ whole
IsKnownAs None whole = 2 ^ 127 ≤ unsigned_abs whole

-- it is told, with the number that it comes to, or that this is past 128 bits
pub record IsToldAs (o : Overflow) (p : PastView) : Type 0 where
  pub rank : o.rank ≡ p.rank
  pub statement : o.statement ≡ p.statement
  pub typed : o.ty ≡ p.ty
  pub known : IsKnownAs o.exact p.whole

-- LINES

abbrev pub type_word : Ty → List ℕ
type_word T.I8 = codes "i8"
type_word T.I16 = codes "i16"
type_word T.I32 = codes "i32"
type_word ty = codes "i64"

abbrev pub past_text : Ty → ℤ → List ℕ
past_text ty z = number_text z ++ codes " is past " ++ type_word ty

-- what the type makes of a number
abbrev pub gives_text : Ty → ℤ → List ℕ
gives_text ty z = codes ", which gives " ++ number_text (into_range ty z)

-- a number that is past its type; none is told of one that is past 128 bits
abbrev pub past_result_text : Ty → Option ℤ → List ℕ
past_result_text ty None = codes "the result is past " ++ type_word ty
past_result_text ty (Some z) = past_text ty z ++ gives_text ty z

abbrev pub overflow_text : (text : List ℕ) → Overflow → List ℕ
overflow_text text o = start_text o.rank (line_at (lines_given o.rank text) o.statement) ++ past_result_text o.ty o.exact ++ codes "\n"

-- lines are told behind others: of all results that are past their types in such an evaluation the first hundred, and one of how many more there are
pub record AreOverflows (text : List ℕ) (statements : List (List Statement)) (waiting : List WaitingView) (complaints unheard : List ComplaintView) (old new : List ℕ) : Type 0 where
  pub all : List Overflow
  pub each : AllZip IsToldAs all (all_past statements (all_posts (record { statements = statements; waiting = waiting; complaints = complaints; unheard = unheard })))
  pub told : new ≡ (old ++ flat_map (overflow_text text) (take 100 all)) ++ more_text (length all - 100)
