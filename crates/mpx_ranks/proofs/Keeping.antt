-- What a host has had stays so through its waits and blocking calls.
use Rattle.std.proofs.Common.{◌≡◌, ℕ, List, Result, Ok, Err, inl, inr, sym, subst}
use Rattle.mpx_comm.specs.declared.answers.CallError.{CallError}
use Rattle.mpx_comm.specs.declared.answers.CallError.TheVariants as C
use Rattle.mpx_request.specs.declared.answers.TurnError.{TurnError}
use Rattle.mpx_request.specs.declared.answers.TurnError.TheVariants as T
use Rattle.mpx_request.specs.declared.answers.WaitError.{WaitError}
use Rattle.mpx_request.specs.declared.answers.WaitError.TheVariants as W
use Rattle.mpx_request.specs.declared.request.Request.{Request}
use Rattle.mpx_comm.specs.Forgetting.{WaitsAndForgets}
use Rattle.mpx_request.specs.Later.{IsAtHand, IsPending}
use Rattle.mpx_request.specs.Requests.{Waits}
use Rattle.mpx_comm.specs.Calls.{Calls}
use Rattle.mpx_request.specs.Turns.{GivesUp}
use Rattle.mpx_name.specs.Name.{Name}
use Rattle.mpx_node.specs.declared.finished.Finished.{Finished}
use Rattle.mpx_node.specs.Nodes.{NodeView}
use Rattle.mpx_num.specs.declared.own.Operation.{Operation}
use Rattle.mpx_post.specs.declared.draft.Draft.{Draft}

module _ {H : Type 0} (node : H → NodeView) (turned : H → ℕ → H → Type 0) (refused : H → TurnError → H → Type 0) (had : H → Type 0)
    (later : (a b : H) (n : ℕ) → turned a n b → had a → had b) (never : (a b : H) (why : TurnError) → refused a why b → had a → had b) where
  had_given_up : (is_pending is_at_hand : NodeView → Type 0) (why : TurnError) (turns : ℕ) (a b : H) → GivesUp node turned refused is_pending is_at_hand why turns a b → had a → had b
  had_given_up is_pending is_at_hand why turns a b (inl (is, (n, within, awaits, there))) h = later a b n awaits.0 h
  had_given_up is_pending is_at_hand why turns a b (inr (n, look, within, awaits, lacking, last)) h = never look b why last (later a look n awaits.0 h)

  pub had_waits : (request : Request) (turns : ℕ) (r : Result Finished (WaitError Request)) (a b : H) (before after : List Request) → Waits node turned refused request turns r a b before after → had a → had b
  had_waits request turns (Ok finished) a b before after (found, (n, within, awaits), closed) h = later a b n awaits.0 h
  had_waits request turns (Err (W.StillWaiting back)) a b before after (is, lacking, awaits, open') h = later a b turns awaits.0 h
  had_waits request turns (Err (W.OutOfMemory back)) a b before after (is, gives_up, open') h = had_given_up (λ seen. IsPending seen request.name request.call) (λ seen. IsAtHand seen request.name request.call) T.OutOfMemory turns a b gives_up h
  had_waits request turns (Err (W.GaveUp back rank)) a b before after (is, gives_up, open') h = had_given_up (λ seen. IsPending seen request.name request.call) (λ seen. IsAtHand seen request.name request.call) (T.GaveUp rank) turns a b gives_up h
  had_waits request turns (Err (W.LetGo back)) a b before after (is, gone, same, open') h = subst had (sym same) h

  pub had_waits_and_forgets : (request : Request) (turns : ℕ) (r : Result Finished (WaitError Request)) (a b : H) (before after : List Request) → WaitsAndForgets node turned refused request turns r a b before after → had a → had b
  had_waits_and_forgets request turns (Ok finished) a b before after (waited, waits, since, lets) h = later waited b 0 lets.1 (had_waits request turns (Ok finished) a waited before after waits h)
  had_waits_and_forgets request turns (Err e) a b before after (waits, since) h = had_waits request turns (Err e) a b before after waits h

  pub had_calls : (ops : List Operation) (name : Name) (draft : Draft) (turns : ℕ) (r : Result Finished CallError) (a b : H) (before after : List Request) → Calls ops node turned refused name draft turns r a b before after → had a → had b
  had_calls ops name draft turns (Ok finished) a b before after (made, found, mine, (n, within, (posted, none, is, awaits)), closed) h = later posted b n awaits.0 (later a posted 0 none h)
  had_calls ops name draft turns (Err (C.Refused e)) a b before after (asks, none) h = later a b 0 none h
  had_calls ops name draft turns (Err (C.StillWaiting request)) a b before after (is, made, lacking, (posted, none, node_is, awaits), open') h = later posted b turns awaits.0 (later a posted 0 none h)
  had_calls ops name draft turns (Err (C.OutOfMemory request)) a b before after (is, made, (posted, none, node_is, gives_up), open') h = had_given_up (λ seen. IsPending seen request.name request.call) (λ seen. IsAtHand seen request.name request.call) T.OutOfMemory turns posted b gives_up (later a posted 0 none h)
  had_calls ops name draft turns (Err (C.GaveUp request rank)) a b before after (is, made, (posted, none, node_is, gives_up), open') h = had_given_up (λ seen. IsPending seen request.name request.call) (λ seen. IsAtHand seen request.name request.call) (T.GaveUp rank) turns posted b gives_up (later a posted 0 none h)
