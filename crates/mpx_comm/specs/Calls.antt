-- Posts and blocking calls, and the open requests in order of posting.
use Rattle.std.specs.Prelude.{◌≡◌, ℕ, ℤ, ◌<◌, ◌≤◌, ◌++◌, ◌⊎◌, false, List, [], ◌∷◌, Result, Ok, Err, IsOk, Some, slice_get}
use Rattle.join_core.specs.declared.memory.OutOfMemory.{OutOfMemory}
use Rattle.mpx_name.specs.Name.{Name}
use Rattle.mpx_num.specs.declared.own.Operation.{Operation}
use Rattle.mpx_post.specs.Posts.{Given}
use Rattle.mpx_post.specs.Drafts.{given_by}
use Rattle.mpx_post.specs.declared.draft.Draft.{Draft}
use Rattle.mpx_post.specs.declared.draft.PostError.{PostError}
use Rattle.mpx_post.specs.declared.draft.PostError.TheVariants as R
use Rattle.mpx_node.specs.declared.finished.Finished.{Finished}
use Rattle.mpx_node.specs.Nodes.{NodeView, Opens, posted_on, with_post, checked_on, gathers_on}
use Rattle.mpx_request.specs.declared.request.Request.{Request}
use Rattle.mpx_request.specs.declared.answers.WaitError.TheVariants.{StillWaiting, GaveUp}
use Rattle.mpx_request.specs.declared.answers.TurnError.{TurnError}
use Rattle.mpx_request.specs.declared.answers.TurnError.TheVariants as T
use Rattle.mpx_comm.specs.declared.answers.CallError.{CallError}
use Rattle.mpx_comm.specs.declared.answers.CallError.TheVariants as C
use Rattle.mpx_request.specs.Later.{result_at, is_let_go, IsOwn, IsPending}
use Rattle.mpx_request.specs.Requests.{AwaitsOne, GivesUpOne, close, has_let_go, result_of}
use Rattle.mpx_comm.specs.Lines.{create_group}

-- POSTS

-- each was posted here, and its result wasn't let go
abbrev pub ArePosted : NodeView → List Request → Type 0
ArePosted node rs = (i : ℕ) (request : Request) → slice_get rs i ≡ Some request → (request.call < posted_on node request.name) × (has_let_go node request ≡ false)

-- with these operations of the job's own just the draft is posted since, as the next call on the context; what was stored or posted before stays, and
-- no result was let go
pub record HasPosted (ops : List Operation) (name : Name) (draft : Draft) (old new : NodeView) : Type 0 where
  pub accepted : checked_on ops old name draft ≡ Ok (given_by draft)
  pub own : IsOwn new name (posted_on old name) (given_by draft)
  pub posted : (n : Name) → posted_on new n ≡ posted_on (with_post name (given_by draft) old) n
  pub stored : (n : Name) (call : ℕ) (finished : Finished) → result_at old n call ≡ Some finished → result_at new n call ≡ Some finished
  pub let_go : (n : Name) (call : ℕ) → is_let_go new n call ≡ is_let_go old n call
  pub kept : (n : Name) (call : ℕ) (given : Given) → IsOwn old n call given → IsOwn new n call given

-- the next call on a context
abbrev pub next_call : NodeView → Name → Request
next_call node name = record { name = name; call = posted_on node name }

-- the draft's refusal, or want of memory where it has none
abbrev pub IsRefusal : Result Given PostError → PostError → Type 0
IsRefusal checked e = (checked ≡ Err e) ⊎ ((e ≡ R.OutOfMemory) × IsOk checked)

-- just the draft is posted, and its request is the last open one; or it is refused, and nothing changes
abbrev pub Asks : List Operation → Name → Draft → Result Request PostError → (old new : NodeView) → (before after : List Request) → Type 0
Asks ops name draft (Ok request) old new before after =
    (request ≡ next_call old name) × HasPosted ops name draft old new × (after ≡ before ++ request ∷ []) × (new ≡ with_post name (given_by draft) old)
Asks ops name draft (Err e) old new before after = IsRefusal (checked_on ops old name draft) e × (new ≡ old) × (after ≡ before)

-- a gathering is opened, and stays so, and then its call is asked for; or it isn't opened, and nothing changes
abbrev pub AsksGathered : {H : Type 0} → List Operation → (node : H → NodeView) → (turned : H → ℕ → H → Type 0) → (parent : Name) → (tag : ℤ) → (ranks : List ℤ) → Result Request PostError → (old new : H) → (before after : List Request) → Type 0
AsksGathered {H} ops node turned parent tag ranks result old new before after =
    ((e : PostError) × (result ≡ Err e) × Opens parent (gathers_on (node old) parent tag ranks) (Err e) (node old) (node new) × (after ≡ before))
    ⊎ ((name : Name) × (opened : H) × Opens parent (gathers_on (node old) parent tag ranks) (Ok name) (node old) (node opened) × turned old 0 opened
    × Asks ops name create_group result (node opened) (node new) before after)

-- BLOCKING CALLS

-- the draft is posted, with no turn, and from there on the host waits
abbrev pub PostsAnd : {H : Type 0} → (node : H → NodeView) → (turned : H → ℕ → H → Type 0) → Name → Draft → H → (waits : H → Type 0) → Type 0
PostsAnd {H} node turned name draft old waits = (posted : H) × turned old 0 posted × (node posted ≡ with_post name (given_by draft) (node old)) × waits posted

-- a blocking call is a post and a wait: its result says the draft's post; where it doesn't come, its request is handed out, still open
abbrev pub Calls : {H : Type 0} → List Operation → (node : H → NodeView) → (turned : H → ℕ → H → Type 0) → (refused : H → TurnError → H → Type 0) → Name → Draft → (turns : ℕ) → Result Finished CallError → (old new : H) → (before after : List Request) → Type 0
Calls ops node turned refused name draft turns (Ok finished) old new before after =
    HasPosted ops name draft (node old) (node new) × (result_of (node new) (next_call (node old) name) ≡ Some finished) × (finished.mine ≡ given_by draft)
    × ((n : ℕ) × (n ≤ turns) × PostsAnd node turned name draft old (λ posted. AwaitsOne node turned (next_call (node old) name) posted n new))
    × (after ≡ close (before ++ next_call (node old) name ∷ []) (next_call (node old) name))
Calls ops node turned refused name draft turns (Err (C.Refused e)) old new before after = Asks ops name draft (Err e) (node old) (node new) before after × turned old 0 new
Calls ops node turned refused name draft turns (Err (C.StillWaiting request)) old new before after =
    (request ≡ next_call (node old) name) × HasPosted ops name draft (node old) (node new) × IsPending (node new) request.name request.call
    × PostsAnd node turned name draft old (λ posted. AwaitsOne node turned request posted turns new) × (after ≡ before ++ request ∷ [])
Calls ops node turned refused name draft turns (Err (C.OutOfMemory request)) old new before after =
    (request ≡ next_call (node old) name) × HasPosted ops name draft (node old) (node new)
    × PostsAnd node turned name draft old (λ posted. GivesUpOne node turned refused request T.OutOfMemory turns posted new) × (after ≡ before ++ request ∷ [])
Calls ops node turned refused name draft turns (Err (C.GaveUp request rank)) old new before after =
    (request ≡ next_call (node old) name) × HasPosted ops name draft (node old) (node new)
    × PostsAnd node turned name draft old (λ posted. GivesUpOne node turned refused request (T.GaveUp rank) turns posted new) × (after ≡ before ++ request ∷ [])

-- the gathering isn't opened, and nothing changes
abbrev pub IsNotGathered : {H : Type 0} → (node : H → NodeView) → (turned : H → ℕ → H → Type 0) → (parent : Name) → (tag : ℤ) → (ranks : List ℤ) → Result Finished CallError → (old new : H) → (before after : List Request) → Type 0
IsNotGathered node turned parent tag ranks result old new before after =
    (e : PostError) × (result ≡ Err (C.Refused e)) × Opens parent (gathers_on (node old) parent tag ranks) (Err e) (node old) (node new) × turned old 0 new × (after ≡ before)

-- the gathering is opened, and stays so; then the call is one on it
abbrev pub CallsGathered : {H : Type 0} → List Operation → (node : H → NodeView) → (turned : H → ℕ → H → Type 0) → (refused : H → TurnError → H → Type 0) → (parent : Name) → (tag : ℤ) → (ranks : List ℤ) → (turns : ℕ) → Result Finished CallError → (old new : H) → (before after : List Request) → Type 0
CallsGathered {H} ops node turned refused parent tag ranks turns result old new before after =
    (name : Name) × (opened : H) × Opens parent (gathers_on (node old) parent tag ranks) (Ok name) (node old) (node opened) × turned old 0 opened
    × Calls ops node turned refused name create_group turns result opened new before after
