-- What a post comes to, by what the node answers.
use Rattle.std.proofs.Common.{◌≡◌, ℕ, List, Option, Some, None, inl, inr, refl, sym, ap, subst}
use Rattle.std.specs.Prelude.{Result, Ok, Err, IfOk, OnOk}
use Rattle.mpx_name.specs.Name.{Name}
use Rattle.mpx_num.specs.declared.own.Operation.{Operation}
use Rattle.mpx_post.specs.declared.draft.Draft.{Draft}
use Rattle.mpx_post.specs.declared.draft.PostError.{PostError}
use Rattle.mpx_post.specs.Gatherings.{GatheringView}
use Rattle.mpx_node.specs.Nodes.{NodeView, Opens, checked_on, gathering_name, gathers_on}
use Rattle.mpx_request.specs.declared.request.Request.{Request}
use Rattle.mpx_comm.specs.Calls.{Asks, IsRefusal}
use Rattle.mpx_statement.specs.declared.statement.Posting.{Posting}
use Rattle.mpx_statement.specs.Statements.{Gathers, draft_of, gathers_of}
use Rattle.mpx_sim.specs.Carrying.{IsContext, Tries, tried_gathered, tried_in, tried_on, tried_post}
use Rattle.mpx_sim.specs.Shown.{call_in, call_of}

-- what the desk was asked is tried
pub tries_asked : (ops : List Operation) (name : Name) (draft : Draft) (result : Result Request PostError) (old new : NodeView) (before after : List Request) → Asks ops name draft result old new before after
    → Tries (tried_post name (checked_on ops old name draft) old) (call_in result) new
tries_asked ops name draft (Ok request) old new before after asks =
    subst (λ checked. Tries (tried_post name checked old) (Ok (call_of request)) new) (sym asks.1.accepted) (ap (λ r. Ok (call_of r)) (sym asks.0), asks.3)
tries_asked ops name draft (Err refusal) old new before after asks = by_refusal asks.0 where
  by_refusal : IsRefusal (checked_on ops old name draft) refusal → Tries (tried_post name (checked_on ops old name draft) old) (Err refusal) new
  by_refusal (inl is) other = subst (λ checked. ((tried_post name checked old).answer ≡ Err refusal) × (new ≡ (tried_post name checked old).node)) (sym is) (refl, asks.1)
  by_refusal (inr memory) other = absurd (other memory.0)

-- a gathering is opened, and then a post is tried there
pub tries_gathered : (ops : List Operation) (parent : Name) (draft : Draft) (x : Result GatheringView PostError) (name : Name) (old mid : NodeView) (answer : Result (Name × ℕ) PostError) (new : NodeView) → Opens parent x (Ok name) old mid
    → Tries (tried_post name (checked_on ops mid name draft) mid) answer new → Tries (tried_gathered ops parent draft x old) answer new
tries_gathered ops parent draft (Ok g) name old mid answer new h t = subst (λ m. Tries (tried_post (gathering_name parent g) (checked_on ops m (gathering_name parent g) draft) m) answer new) h.1 (subst (λ n. Tries (tried_post n (checked_on ops mid n draft) mid) answer new) h.0 t)
tries_gathered ops parent draft (Err refusal) name old mid answer new h t = cc h.0

-- on the context of a statement it is tried, or the context is refused
pub tries_there : (ops : List Operation) (draft : Draft) (asked : Option Gathers) (on name : Name) (old mid : NodeView) (answer : Result (Name × ℕ) PostError) (new : NodeView) → IsContext on asked (Ok name) old mid
    → Tries (tried_post name (checked_on ops mid name draft) mid) answer new → Tries (tried_in ops draft asked on old) answer new
tries_there ops draft None on name old mid answer new is t = subst (λ m. Tries (tried_post on (checked_on ops m on draft) m) answer new) is.1 (subst (λ n. Tries (tried_post n (checked_on ops mid n draft) mid) answer new) is.0 t)
tries_there ops draft (Some asked) on name old mid answer new is t = tries_gathered ops on draft (gathers_on old on asked.tag asked.ranks) name old mid answer new is t

-- what a statement that posts comes to, where its draft is posted on its context
pub tries_on : (ops : List Operation) (posting : Posting) (o : Option Name) (on name : Name) → o ≡ Some on → (old mid : NodeView) (answer : Result (Name × ℕ) PostError) (new : NodeView) → IsContext on (gathers_of posting) (Ok name) old mid
    → Tries (tried_post name (checked_on ops mid name (draft_of posting)) mid) answer new → Tries (tried_on ops posting o old) answer new
tries_on ops posting o on name is old mid answer new context tries =
    subst (λ p. Tries (tried_on ops posting p old) answer new) (sym is) (tries_there ops (draft_of posting) (gathers_of posting) on name old mid answer new context tries)

pub on_ok : {T E P : Type 0} (r : Result T E) → P → OnOk r P
on_ok (Ok x) p = p
on_ok (Err e) p = tt

pub on_each_ok : {T E P Q : Type 0} (r : Result T E) → (P → Q) → OnOk r P → OnOk r Q
on_each_ok (Ok x) f p = f p
on_each_ok (Err e) f p = p

pub on_if_ok : {T E Q : Type 0} {P : T → Type 0} (r : Result T E) → ((x : T) → P x → Q) → IfOk r P → OnOk r Q
on_if_ok (Ok x) f p = f x p
on_if_ok (Err e) f p = p
