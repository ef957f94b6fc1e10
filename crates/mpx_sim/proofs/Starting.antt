-- How a run starts.
use Rattle.std.proofs.Common.{◌≡◌, ℕ, Bool, true, false, cond, List, [], ◌∷◌, ◌++◌, length, codes, Option, Some, None, refl, sym, ap, ◌∙◌, subst, arith}
use Rattle.std.specs.Prelude.{slice_get, bytes_eq, unwrap_or, if◌then◌else◌}
use Rattle.std.specs.Option.{option_map}
use Rattle.mpx_num.specs.declared.own.Operation.{Operation}
use Rattle.mpx_name.specs.Name.{Name}
use Rattle.mpx_meaning.specs.Ranks.{Communicator, doing}
use Rattle.mpx_meaning.specs.Evaluation.{Script, bound_at_start, start_state, world_of}
use Rattle.mpx_meaning.specs.Standing.{todo_of}
use Rattle.mpx_statement.specs.Lookups.{named}
use Rattle.mpx_rank.specs.Moves.{RankView, bound_first}
use Rattle.mpx_rank.specs.Places.{CommunicatorView, bound_as}
use Rattle.mpx_system.specs.Systems.{start_system}
use Rattle.mpx_system.proofs.Leading.{leads_nowhere}
use Rattle.mpx_world.proofs.Lists.{slice_get-push_cases}
use Rattle.mpx_sim.specs.Draws.{ScheduleView}
use Rattle.mpx_sim.specs.Senders.{first_sender}
use Rattle.mpx_sim.specs.Turns.{Alone, first_moment}
use Rattle.mpx_sim.proofs.Phases.{begins}
use Rattle.mpx_sim.specs.Running.{IsAt, IsUnderWay, ProcessView, StandsBy, name_of}

-- the world, by its name
names_first : (world : Option Name) → world ≡ Some [] → (other : Option CommunicatorView) → name_of other ≡ Some [] → (word : List ℕ) → bound_first world word ≡ option_map name_of (bound_first other word)
names_first None e other f word = cc e
names_first (Some w) e None f word = cc f
names_first (Some w) e (Some o) f word = by_test (bytes_eq word (codes "world")) where
  by_test : (b : Bool) → cond b (Some (Some w)) None ≡ option_map name_of (cond b (Some (Some o)) None)
  by_test true = ap Some (e ∙ sym f)
  by_test false = refl

bound_there : (ranks : ℕ) (word : List ℕ) → option_map bound_as (bound_first (Some ([], world_of ranks)) word) ≡ named (bound_at_start ranks) word
bound_there ranks word = by_test (bytes_eq word (codes "world")) where
  by_test : (b : Bool) → option_map bound_as (cond b (Some (Some ([], world_of ranks))) None) ≡ (if b then Some (Communicator [] (world_of ranks)) else None)
  by_test true = refl
  by_test false = refl

-- a rank before its statements stands at the start of its script
pub stands_first : (script : Script) (ranks p : ℕ) (r : RankView Name) (world : Option Name) → world ≡ Some [] → ((word : List ℕ) → r.bound word ≡ bound_first world word) → ((word : List ℕ) → r.requests word ≡ None)
    → slice_get script p ≡ Some r.todo → r.waits ≡ None → r.lines ≡ [] → r.origins ≡ [] → StandsBy r (start_state script ranks p)
stands_first script ranks p r world named_so bound requests todo waits lines origins = record {
  bound = bound_first (Some ([], world_of ranks));
  names = λ word. bound word ∙ names_first world named_so (Some ([], world_of ranks)) refl word;
  stands = record {
    bound = bound_there ranks;
    requests = requests;
    todo = ap (λ o. doing (unwrap_or o [])) todo ∙ ap (λ w. todo_of w r.todo) (sym waits);
    lines = lines;
    origins = origins;
  };
}

-- a process more, which is the one of its number
pub one_more : (ops : List Operation) (script : Script) (ranks size : ℕ) (processes : List ProcessView) (v : ProcessView) (n : ℕ) → length processes ≡ n → IsAt ranks (start_system ops script ranks size) n v
    → ((p : ℕ) (x : ProcessView) → slice_get processes p ≡ Some x → IsAt ranks (start_system ops script ranks size) p x) → (p : ℕ) (x : ProcessView) → slice_get (processes ++ v ∷ []) p ≡ Some x → IsAt ranks (start_system ops script ranks size) p x
one_more ops script ranks size processes v n count at each p x e =
    let s = start_system ops script ranks size in
    slice_get-push_cases (λ y j. IsAt ranks s j y) processes v p x e (each p x) (λ same last. subst (IsAt ranks s p) same (subst (λ j. IsAt ranks s j v) (sym (last ∙ count)) at))

-- which has sent nothing
pub one_more_first : (processes : List ProcessView) (v : ProcessView) → v.sender ≡ first_sender → ((p : ℕ) (x : ProcessView) → slice_get processes p ≡ Some x → x.sender ≡ first_sender) → (p : ℕ) (x : ProcessView) → slice_get (processes ++ v ∷ []) p ≡ Some x → x.sender ≡ first_sender
one_more_first processes v first each p x e = slice_get-push_cases (λ (y : ProcessView) j. y.sender ≡ first_sender) processes v p x e (each p x) (λ same last. subst (λ (y : ProcessView). y.sender ≡ first_sender) same first)

pub run_starts : (ops : List Operation) (script : Script) (ranks size : ℕ) (first : ScheduleView) (processes : List ProcessView) → length processes ≡ size → ((p : ℕ) (v : ProcessView) → slice_get processes p ≡ Some v → IsAt ranks (start_system ops script ranks size) p v) → ((p : ℕ) (v : ProcessView) → slice_get processes p ≡ Some v → v.sender ≡ first_sender) → IsUnderWay ops script ranks size (first_moment ops script ranks size first) Alone processes []
run_starts ops script ranks size first processes count each none = record {
  system = start_system ops script ranks size;
  led = leads_nowhere ranks (start_system ops script ranks size);
  since = begins ranks size (first_moment ops script ranks size first);
  count = count;
  each = each;
  sent = λ k d l. absurd (omega (arith, l));
  senders = none;
}
