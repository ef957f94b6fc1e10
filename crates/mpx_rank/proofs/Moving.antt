-- What moves leave of a rank.
use Rattle.std.proofs.Common.{◌≡◌, ℕ, ◌+◌, ◌<◌, List, [], ◌∷◌, Option, Some, None, length, refl, sym, ap, ◌∙◌, subst, arith}
use Rattle.std.specs.Prelude.{OnErr, Result, Ok, Err}
use Rattle.mpx_name.specs.Name.{Name}
use Rattle.mpx_statement.specs.declared.statement.Question.{Question}
use Rattle.mpx_statement.specs.declared.statement.Statement.{Statement}
use Rattle.mpx_statement.specs.declared.statement.Statement.TheVariants.{Ask}
use Rattle.mpx_meaning.specs.declared.line.Line.{Line}
use Rattle.mpx_meaning.specs.Ranks.{answered_by, doing}
use Rattle.mpx_meaning.specs.Standing.{WaitView, awaited, closed, todo_of}
use Rattle.mpx_rank.specs.Carriers.{Outcomes, Terms}
use Rattle.mpx_rank.specs.Moves.{Move, RankView, answered, found_by, left_of, asks, hears, is_refused, passes, posts, starts, wait_lines}

pub on_err : {T E : Type 0} (r : Result T E) (P : Type 0) → P → OnErr r P
on_err (Ok x) P p = tt
on_err (Err e) P p = p

pub no_items : {A : Type 0} (xs : List A) → length xs ≡ 0 → xs ≡ []
no_items [] e = refl
no_items (x ∷ xs) e = absurd (omega (arith, e))

-- what is left to do has an entry for each statement that is left
pub doing_length : (xs : List Statement) → length (doing xs) ≡ length xs
doing_length [] = refl
doing_length (x ∷ xs) = omega (arith, doing_length xs)

pub todo_length : (w : Option WaitView) (rest : List Statement) → length (todo_of w rest) ≡ awaited w + length rest
todo_length (Some w) rest = omega (arith, doing_length rest)
todo_length None rest = omega (arith, doing_length rest)

-- a wait has a line for each of its requests
pub wait_lines-length : (told : Outcomes) (requests : List ℕ → Option (Name × ℕ)) (words : List (List ℕ)) → length (wait_lines told requests words) ≡ length words
wait_lines-length told requests [] = refl
wait_lines-length told requests (word ∷ words) = omega (arith, wait_lines-length told (closed word requests) words)

-- a question that is answered is a move, which leaves the carrier as it was
pub asks_there : {C K : Type 0} (terms : Terms C K) (r : RankView K) (c d : C) (s : RankView K) (question : Question) (rest : List Statement) (line : Line) → r.waits ≡ None → r.todo ≡ Ask question ∷ rest
    → line ≡ answered_by r.me (found_by (terms.closes c r.me) (terms.knows c) r.bound) question → answered r rest line ≡ s → d ≡ c → Move terms r c s d
asks_there terms r c d s question rest line waits todo said is same =
    subst (λ e. Move terms r c s e) (sym same) (subst (λ u. Move terms r c u c) (ap (answered r rest) (sym said) ∙ is) (asks question rest waits todo))

-- less is left after a move
pub move_leaves : {C K : Type 0} (terms : Terms C K) (r : RankView K) (c : C) (s : RankView K) (d : C) → Move terms r c s d → left_of s < left_of r
move_leaves terms r c s d (hears w outcome to waits h tells gives) = let some = ap awaited waits in omega (arith, some)
move_leaves terms r c s d (posts posting rest name call waits todo none tries) = let some = ap awaited waits in let left = ap length todo in omega (arith, some, left)
move_leaves terms r c s d (starts posting rest word name call waits todo open_as tries) = let some = ap awaited waits in let left = ap length todo in omega (arith, some, left)
move_leaves terms r c s d (is_refused posting rest refusal waits todo other tries) = let some = ap awaited waits in let left = ap length todo in omega (arith, some, left)
move_leaves terms r c s d (passes words rest waits todo before done after) = let some = ap awaited waits in let left = ap length todo in omega (arith, some, left)
move_leaves terms r c s d (asks question rest waits todo) = let some = ap awaited waits in let left = ap length todo in omega (arith, some, left)
