-- What many tasks ask, and what they give.
use Rattle.std.specs.Prelude.{◌≡◌, ℕ, List, Some, length, map, slice_get}
use Rattle.std.specs.declared.thread.PromisedHandle.{PromisedHandle}
use Rattle.mpx_num.specs.declared.own.Operation.{Operation}
use Rattle.mpx_at_once.specs.declared.task.TaskPromise.{TaskPromise}

-- a function beside a job with which it is called
abbrev pub beside : {F J : Type 0} → F → J → F × J
beside f job = (f, job)

-- each of them can be done where these are the job's own operations
abbrev pub AllCan : {T : Type 0} → (T → List Operation → Type 0) → List Operation → List T → Type 0
AllCan can_run operations tasks = (i : ℕ) (t : _) → slice_get tasks i ≡ Some t → can_run t operations

-- each of them gave the result at its place
pub record AllGive {T A : Type 0} (gives : T → A → Type 0) (tasks : List T) (results : List A) : Type 0 where
  pub count : length results ≡ length tasks
  pub each : (i : ℕ) (t : T) (r : A) → slice_get tasks i ≡ Some t → slice_get results i ≡ Some r → gives t r

-- the tasks that threads do
abbrev pub tasks_of : {L T A : Type 0} → List (PromisedHandle A (TaskPromise L T)) → List T
tasks_of handles = map (λ h. h.promise.task.value) handles
