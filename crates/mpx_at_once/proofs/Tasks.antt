-- What tasks gave, one after the other, and what calls of a function with jobs gave.
use Rattle.std.proofs.Common.{◌≡◌, ℕ, zero, suc, ◌<◌, List, [], ◌∷◌, ◌++◌, length, map, Some, refl, sym, ap, ◌∙◌, subst, arith}
use Rattle.std.specs.Prelude.{slice_get, slice_index_or, Result, Ok, Err, IfOk}
use Rattle.std.specs.Option.{option_map}
use Rattle.std.specs.Fork.{AcceptsJobs, GivesJobs}
use Rattle.std.proofs.lemmas.List.{length-map}
use Rattle.std.proofs.lemmas.Option.{same_Some, slice_get-map}
use Rattle.std.specs.declared.thread.PromisedHandle.{PromisedHandle}
use denote.Param.Members.{Shared}
use Rattle.mpx_at_once.specs.declared.task.Calling.{Calling}
use Rattle.mpx_at_once.specs.declared.task.TaskPromise.{TaskPromise}
use Rattle.mpx_at_once.specs.Tasks.{AllGive, beside, tasks_of}

module _ {L T A : Type 0} (gives : T → A → Type 0) where
  pub one_more_gives : (hs : List (PromisedHandle A (TaskPromise L T))) (rs : List A) (h : PromisedHandle A (TaskPromise L T)) (r : A) → AllGive gives (tasks_of hs) rs → gives h.promise.task.value r → AllGive gives (tasks_of (hs ++ h ∷ [])) (rs ++ r ∷ [])
  one_more_gives [] [] h r all gave = record { count = refl; each = λ i t x e f. last i t x e f } where
    last : (i : ℕ) (t : T) (x : A) → slice_get (h.promise.task.value ∷ []) i ≡ Some t → slice_get (r ∷ []) i ≡ Some x → gives t x
    last zero t x e f = subst (λ y. gives t y) (same_Some r x f) (subst (λ y. gives y r) (same_Some h.promise.task.value t e) gave)
    last (suc i) t x e f = cc e
  one_more_gives [] (x ∷ rs) h r all gave = let none = all.count in cc none
  one_more_gives (k ∷ hs) [] h r all gave = let none = all.count in cc none
  one_more_gives (k ∷ hs) (x ∷ rs) h r all gave =
      let rest = one_more_gives hs rs h r (record { count = cc all.count; each = λ i. all.each (suc i) }) gave in
      record { count = ap suc rest.count; each = λ i t y e f. by_place i t y e f rest } where
        by_place : (i : ℕ) (t : T) (y : A) → slice_get (tasks_of (k ∷ hs ++ h ∷ [])) i ≡ Some t → slice_get (x ∷ rs ++ r ∷ []) i ≡ Some y → AllGive gives (tasks_of (hs ++ h ∷ [])) (rs ++ r ∷ []) → gives t y
        by_place zero t y e f rest = all.each 0 t y e f
        by_place (suc i) t y e f rest = rest.each i t y e f

-- LISTS

pub within_get : {A : Type 0} (xs : List A) (k : ℕ) (x : A) → slice_get xs k ≡ Some x → k < length xs
within_get [] k x e = cc e
within_get (y ∷ xs) zero x e = omega arith
within_get (y ∷ xs) (suc k) x e = let l = within_get xs k x e in omega (arith, l)

pub get_within : {A : Type 0} (xs : List A) (k : ℕ) → k < length xs → (x : A) × (slice_get xs k ≡ Some x)
get_within [] k l = absurd (omega (arith, l))
get_within (y ∷ xs) zero l = (y, refl)
get_within (y ∷ xs) (suc k) l = get_within xs k (omega (arith, l))

-- what is there is read, whatever stands for nothing
read_any : {A : Type 0} (xs : List A) (i : ℕ) (x d : A) → slice_get xs i ≡ Some x → slice_index_or xs i d ≡ x
read_any [] i x d e = cc e
read_any (y ∷ xs) zero x d e = same_Some y x e
read_any (y ∷ xs) (suc i) x d e = read_any xs i x d e

pub mapped_at : {A B : Type 0} (f : A → B) (xs : List A) (i : ℕ) (y : B) → slice_get (map f xs) i ≡ Some y → (x : A) × ((slice_get xs i ≡ Some x) × (f x ≡ y))
mapped_at f [] i y e = cc e
mapped_at f (x ∷ xs) zero y e = (x, (refl, same_Some (f x) y e))
mapped_at f (x ∷ xs) (suc i) y e = mapped_at f xs i y e

-- what follows from what a result ensures, where there is one
pub where_ok : {A E : Type 0} (P Q : A → Type 0) → ((a : A) → P a → Q a) → (r : Result A E) → IfOk r P → IfOk r Q
where_ok P Q follows (Ok a) p = follows a p
where_ok P Q follows (Err e) p = tt

-- CALLS OF A FUNCTION WITH JOBS

module _ {F J X : Type 0} (called : Shared F (J × Unit {0}) X) (f : F) (jobs : List J) (calls : List (Calling F J)) (made : map (λ (t : Calling F J). beside t.f.now t.job) calls ≡ map (beside f) jobs) where
  abbrev seen : Calling F J → F × J
  seen t = beside t.f.now t.job

  -- what may be called with each job may be called so
  pub accepted : AcceptsJobs called f jobs → (i : ℕ) (t : Calling F J) → slice_get calls i ≡ Some t → called.pre t.f.now (t.job, tt)
  accepted accepts = λ i t e.
      let found = mapped_at (beside f) jobs i (seen t) (ap (λ vs. slice_get vs i) (sym made) ∙ slice_get-map seen calls i ∙ ap (option_map seen) e) in
      subst (λ v. called.pre v.0 (v.1, tt)) found.1.1 (accepts i found.0 (within_get jobs i found.0 found.1.0) (sym (read_any jobs i found.0 found.0 found.1.0)))

  module _ (results : List X) (all : AllGive (λ (t : Calling F J) r. called.post t.f.now (t.job, tt) r) calls results) where
    pub given_count : length results ≡ length jobs
    given_count = all.count ∙ sym (length-map calls seen) ∙ ap length made ∙ length-map jobs (beside f)

    gave : (i : ℕ) (j : J) (r : X) → slice_get jobs i ≡ Some j → slice_get results i ≡ Some r → called.post f (j, tt) r
    gave i j r e at =
        let found = mapped_at seen calls i (beside f j) (ap (λ vs. slice_get vs i) made ∙ slice_get-map (beside f) jobs i ∙ ap (option_map (beside f)) e) in
        subst (λ v. called.post v.0 (v.1, tt) r) found.1.1 (all.each i found.0 r found.1.0 at)

    -- and each result is that of a call with the job at its place
    pub given : GivesJobs called f jobs results
    given i d l =
        let job = get_within jobs i l in
        let got = get_within results i (omega (arith, l, given_count)) in
        let at : slice_get results i ≡ Some (slice_index_or results i d) = got.1 ∙ ap Some (sym (read_any results i got.0 d got.1)) in (
          refl,
          record {
            job = job.0;
            job_read = sym (read_any jobs i job.0 job.0 job.1);
            job_is = λ d. read_any jobs i job.0 d job.1;
            call = record { met = gave i job.0 (slice_index_or results i d) job.1 at };
          },
        )
