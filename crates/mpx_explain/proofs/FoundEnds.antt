-- Ranks that wait, one after the other, and calls of which their boards lack posts.
use Rattle.std.proofs.Common.{◌≡◌, ◌<◌, ℕ, suc, ◌+◌, ◌==◌, Bool, true, false, cond, List, [], ◌∷◌, ◌++◌, append-nil, append_assoc, drop, drop-cons, Option, Some, None, Result, Ok, Err, length, map, arith, ap, refl, subst, sym, ◌∙◌}
use Rattle.std.specs.List.{flat_map}
use Rattle.std.specs.Option.{option_map, option_map_or}
use Rattle.std.specs.Prelude.{OnOk, slice_index_or}
use Rattle.std.proofs.lemmas.Bool.{eqb-true, ne_eqb}
use Rattle.std.proofs.lemmas.List.{map-append}
use Rattle.mpx_meaning.specs.Ends.{Asked, WaitsAtView, asked_view}
use Rattle.mpx_meaning.specs.declared.end.AskedCall.{AskedCall}
use Rattle.mpx_eval.specs.Found.{missing_view, waiting_view}
use Rattle.mpx_eval.specs.Waiting.{MissingCallView, WaitingView}
use Rattle.mpx_eval.specs.declared.missing.MissingCall.{MissingCall}
use Rattle.mpx_eval.specs.declared.who_waits.WaitingRank.{WaitingRank}
use Rattle.mpx_script.specs.LinesGiven.{lines_given}
use Rattle.mpx_waiting.specs.ToldLines.{line_at}
use Rattle.mpx_explain.specs.RunEnds.{EarlierView, FirstView, IsRunTold, TellsRun, calls_of, earlier_text, earlier_view, first_view, firsts_at, firsts_of, place_with, process_of, run_text, served_at, served_by, told_of, told_upto, unmade_at, unmade_by, waits_at, waits_in}
use Rattle.mpx_explain.specs.declared.ended.EndedRun.{EndedRun}
use Rattle.mpx_explain.specs.declared.ends.RunEnd.{RunEnd}
use Rattle.mpx_explain.specs.declared.firsts.EarlierCall.{EarlierCall}

-- all ranks are told
pub tells_run : (run : EndedRun) (end : RunEnd) (n ranks : ℕ) → n ≡ ranks → ranks ≡ run.script.now.ranks → map waiting_view end.waiting.items ≡ told_upto run (λ rank w. waits_at run rank w ∷ []) n → map first_view end.earlier.items ≡ told_upto run (firsts_at run) n
    → end.served.items ≡ told_upto run (served_at run) n → end.unmade.items ≡ told_upto run (unmade_at run) n → TellsRun run end
tells_run run end n ranks all are waiting earlier served unmade = record {
  waiting = waiting ∙ ap (told_upto run (λ rank w. waits_at run rank w ∷ [])) (all ∙ are);
  earlier = earlier ∙ ap (told_upto run (firsts_at run)) (all ∙ are);
  served = served ∙ ap (told_upto run (served_at run)) (all ∙ are);
  unmade = unmade ∙ ap (told_upto run (unmade_at run)) (all ∙ are);
}

-- with what is told of one rank more
pub told_more : {A : Type 0} (run : EndedRun) (told : (rank : ℕ) → WaitsAtView → List A) (n : ℕ) (had new : List A) → had ≡ told_upto run told n → new ≡ had ++ told_of run n (told n) → new ≡ told_upto run told (n + 1)
told_more {A} run told n had new is more =
    let k : suc n ≡ n + 1 = omega arith in
    more ∙ ap (λ (xs : List A). xs ++ told_of run n (told n)) is ∙ ap (told_upto run told) k

-- of a rank that waits
pub told_there : {A : Type 0} (run : EndedRun) (rank : ℕ) (told : WaitsAtView → List A) (w : WaitsAtView) → Some w ≡ waits_in run rank → told w ≡ told_of run rank told
told_there run rank told w is = ap (λ (o : Option WaitsAtView). option_map_or told o []) is

-- of one that doesn't
pub told_nowhere : {A : Type 0} (run : EndedRun) (rank : ℕ) (told : WaitsAtView → List A) (had new : List A) → None ≡ waits_in run rank → new ≡ had → new ≡ had ++ told_of run rank told
told_nowhere {A} run rank told had new none same = same ∙ sym (append-nil had) ∙ ap (λ (o : Option WaitsAtView). had ++ option_map_or told o []) none

-- of a rank that waits what is said of it
pub told_where : {A E : Type 0} (r : Result (Unit {0}) E) (run : EndedRun) (rank : ℕ) (told : WaitsAtView → List A) (w : WaitsAtView) (had new : List A) → Some w ≡ waits_in run rank → OnOk r (new ≡ had ++ told w) → OnOk r (new ≡ had ++ told_of run rank told)
told_where {A} {E} (Ok done) run rank told w had new is more = more ∙ ap (λ (xs : List A). had ++ xs) (told_there run rank told w is)
told_where (Err e) run rank told w had new is more = tt

pub waiting_pushed : (run : EndedRun) (rank : ℕ) (w : WaitsAtView) (had new : List WaitingRank) (one : WaitingRank) → new ≡ had ++ one ∷ [] → one.rank ≡ rank → one.statement ≡ place_with run rank w → map missing_view one.calls.items ≡ calls_of run (process_of run rank) w.calls
    → map waiting_view new ≡ map waiting_view had ++ waits_at run rank w ∷ []
waiting_pushed run rank w had new one is ranked placed calls =
    let same : waiting_view one ≡ waits_at run rank w = λ j. record { rank = ranked j; statement = placed j; calls = calls j } in
    ap (map waiting_view) is ∙ map-append waiting_view had (one ∷ []) ∙ ap (λ (v : WaitingView). map waiting_view had ++ v ∷ []) same

pub earlier_appended : (run : EndedRun) (rank statement : ℕ) (w : WaitsAtView) (had firsts new : List EarlierCall) → statement ≡ place_with run rank w → map first_view firsts ≡ firsts_of run (rank, statement) (process_of run rank) w.calls → new ≡ had ++ firsts
    → map first_view new ≡ map first_view had ++ firsts_at run rank w
earlier_appended run rank statement w had firsts new placed are is =
    ap (map first_view) is
    ∙ map-append first_view had firsts
    ∙ ap (λ (xs : List FirstView). map first_view had ++ xs) (are ∙ ap (λ (n : ℕ). firsts_of run (rank, n) (process_of run rank) w.calls) placed)

-- A PLACE WHERE ALL POSTS HAVE COME

some_zero : (n : ℕ) → (suc n == 0) ≡ true → ⊥
some_zero n is = let same : suc n ≡ 0 = eqb-true (suc n) 0 is in absurd (omega (arith, same))

none_nonzero : (0 == 0) ≡ false → ⊥
none_nonzero is = cc

none_zero : (n : ℕ) → (suc n == 0) ≡ false
none_zero n = ne_eqb (suc n) 0 (λ is. absurd (omega (arith, is)))

-- a rank that asks for nothing
pub served_unasked : {X : Type 0} (place : ℕ × ℕ) (asks : X → Asked) (xs : List X) (calls : List MissingCallView) (firsts : List FirstView) → (length xs == 0) ≡ true → [] ≡ served_by place (map asks xs) calls firsts
served_unasked place asks [] calls firsts is = refl
served_unasked place asks (x ∷ xs) calls firsts is = absurd (some_zero (length xs) is)

-- one that lacks posts
pub served_lacking : {X Y : Type 0} (place : ℕ × ℕ) (asks : X → Asked) (calls : Y → MissingCallView) (xs : List X) (ys : List Y) (firsts : List FirstView) → (length xs == 0) ≡ false → (length ys == 0) ≡ false → [] ≡ served_by place (map asks xs) (map calls ys) firsts
served_lacking place asks calls [] ys firsts asked lacks = absurd (none_nonzero asked)
served_lacking place asks calls (x ∷ xs) [] firsts asked lacks = absurd (none_nonzero lacks)
served_lacking place asks calls (x ∷ xs) (y ∷ ys) firsts asked lacks = refl

-- another one, unless something comes first
pub served_else : {X Y Z : Type 0} (place : ℕ × ℕ) (asks : X → Asked) (calls : Y → MissingCallView) (views : Z → FirstView) (xs : List X) (ys : List Y) (zs : List Z) → (length xs == 0) ≡ false → (length ys == 0) ≡ true
    → cond (length zs == 0) (place ∷ []) [] ≡ served_by place (map asks xs) (map calls ys) (map views zs)
served_else place asks calls views [] ys zs asked held = absurd (none_nonzero asked)
served_else place asks calls views (x ∷ xs) (y ∷ ys) zs asked held = absurd (some_zero (length ys) held)
served_else place asks calls views (x ∷ xs) [] [] asked held = refl
served_else place asks calls views (x ∷ xs) [] (z ∷ zs) asked held = ap (λ (b : Bool). cond b (place ∷ []) []) (none_zero (length zs))

-- one at which it asks for none
pub unmade_where : {X : Type 0} (place : ℕ × ℕ) (asks : X → Asked) (xs : List X) → cond (length xs == 0) (place ∷ []) [] ≡ unmade_by place (map asks xs)
unmade_where place asks [] = refl
unmade_where place asks (x ∷ xs) = ap (λ (b : Bool). cond b (place ∷ []) []) (none_zero (length xs))

-- of a rank that waits at this place
pub served_at_place : (run : EndedRun) (rank statement : ℕ) (w : WaitsAtView) (asked : List AskedCall) (calls : List MissingCall) (firsts : List EarlierCall) (had new : List (ℕ × ℕ)) (served : Bool) → statement ≡ place_with run rank w → map asked_view asked ≡ w.calls
    → map missing_view calls ≡ calls_of run (process_of run rank) w.calls → map first_view firsts ≡ firsts_of run (rank, statement) (process_of run rank) w.calls
    → cond served ((rank, statement) ∷ []) [] ≡ served_by (rank, statement) (map asked_view asked) (map missing_view calls) (map first_view firsts) → new ≡ had ++ cond served ((rank, statement) ∷ []) [] → new ≡ had ++ served_at run rank w
served_at_place run rank statement w asked calls firsts had new served placed asks lacking first is told =
    told
    ∙ ap (λ (xs : List (ℕ × ℕ)). had ++ xs) is
    ∙ ap (λ (xs : List Asked). had ++ served_by (rank, statement) xs (map missing_view calls) (map first_view firsts)) asks
    ∙ ap (λ (xs : List MissingCallView). had ++ served_by (rank, statement) w.calls xs (map first_view firsts)) lacking
    ∙ ap (λ (xs : List FirstView). had ++ served_by (rank, statement) w.calls (calls_of run (process_of run rank) w.calls) xs) first
    ∙ ap (λ (n : ℕ). had ++ served_by (rank, n) w.calls (calls_of run (process_of run rank) w.calls) (firsts_of run (rank, n) (process_of run rank) w.calls)) placed

pub unmade_at_place : (run : EndedRun) (rank statement : ℕ) (w : WaitsAtView) (asked : List AskedCall) (had new : List (ℕ × ℕ)) (unasked : Bool) → statement ≡ place_with run rank w → map asked_view asked ≡ w.calls → unasked ≡ (length asked == 0)
    → new ≡ had ++ cond unasked ((rank, statement) ∷ []) [] → new ≡ had ++ unmade_at run rank w
unmade_at_place run rank statement w asked had new unasked placed asks is told =
    told
    ∙ ap (λ (b : Bool). had ++ cond b ((rank, statement) ∷ []) []) is
    ∙ ap (λ (xs : List (ℕ × ℕ)). had ++ xs) (unmade_where (rank, statement) asked_view asked)
    ∙ ap (λ (xs : List Asked). had ++ unmade_by (rank, statement) xs) asks
    ∙ ap (λ (n : ℕ). had ++ unmade_by (rank, n) w.calls) placed

-- the lines of what was found tell of the run
pub tells_end : {E : Type 0} (text : List ℕ) (run : EndedRun) (end : RunEnd) (old new : List ℕ) (pushed : Result (Unit {0}) E) → TellsRun run end → OnOk pushed (new ≡ old ++ run_text text run end) → OnOk pushed (IsRunTold text run old new)
tells_end text run end old new (Ok done) tells told = record { end = end; tells = tells; told = told }
tells_end text run end old new (Err e) tells told = tt

-- what is told of one more stands behind the others
pub flat_more : {X Y Z : Type 0} (f : Y → List Z) (view : X → Y) (xs : List X) (i : ℕ) (item : X) (had new whole : List Z) → i < length xs → item ≡ slice_index_or xs i item → new ≡ had ++ f (view item) → had ++ flat_map f (map view (drop i xs)) ≡ whole
    → new ++ flat_map f (map view (drop (i + 1) xs)) ≡ whole
flat_more {X} {Y} {Z} f view xs i item had new whole within is told before =
    let k : suc i ≡ i + 1 = omega arith in
    let cut : drop i xs ≡ item ∷ drop (i + 1) xs = drop-cons xs i item within ∙ ap (λ (x : X). x ∷ drop (suc i) xs) (sym is) ∙ ap (λ (n : ℕ). item ∷ drop n xs) k in
    let rest = flat_map f (map view (drop (i + 1) xs)) in
    ap (λ (zs : List Z). zs ++ rest) told ∙ append_assoc had (f (view item)) rest ∙ ap (λ (zs : List X). had ++ flat_map f (map view zs)) (sym cut) ∙ before

-- an earlier call is told by the lines of its statements
pub told_at : {E : Type 0} (text : List ℕ) (places : List (ℕ × ℕ)) (e : EarlierCall) (line : ℕ) (made : Option ℕ) (old new : List ℕ) (pushed : Result (Unit {0}) E) → line ≡ line_at (lines_given e.rank text) e.statement
    → made ≡ option_map (line_at (lines_given e.rank text)) e.made
    → OnOk pushed (new ≡ old ++ earlier_text text places (record { rank = e.rank; line = line; made = made; call = missing_view e.call })) → OnOk pushed (new ≡ old ++ earlier_text text places (earlier_view text e))
told_at text places e line made old new pushed this that told =
    let same : ◌≡◌ {A = EarlierView} (record { rank = e.rank; line = line; made = made; call = missing_view e.call }) (earlier_view text e) = λ j. record { rank = e.rank; line = this j; made = that j; call = missing_view e.call } in
    subst (λ (v : EarlierView). OnOk pushed (new ≡ old ++ earlier_text text places v)) same told
