-- What a rank was told of its calls, and what its carrier says of itself.
use Rattle.std.specs.Prelude.{◌≡◌, ℕ, ℤ, ◌<◌, ◌+◌, ◌==◌, Bool, true, false, ◌&&◌, ◌||◌, cond, List, [], ◌∷◌, ◌++◌, length, take, Option, Some, None, Result, Ok, Err, slice_get}
use Rattle.std.proofs.Common.{refl, sym, ap, ◌∙◌, subst}
use Rattle.std.specs.Option.{option_map}
use Rattle.mpx_num.specs.declared.own.Operation.{Operation}
use Rattle.mpx_name.specs.Name.{Name, same_name}
use Rattle.mpx_birth.specs.Births.{BirthView}
use Rattle.mpx_post.specs.Gatherings.{gathering}
use Rattle.mpx_post.specs.declared.draft.Draft.{Draft}
use Rattle.mpx_post.specs.declared.draft.PostError.{PostError}
use Rattle.mpx_post.specs.declared.draft.PostError.TheVariants.{OutOfMemory}
use Rattle.mpx_value.specs.Histories.{Answer, Made, Results, has_freed}
use Rattle.mpx_statement.specs.declared.statement.Posting.{Posting}
use Rattle.mpx_statement.specs.Statements.{draft_of, gathers_of}
use Rattle.mpx_meaning.specs.Ranks.{attempt_in, bound_by, next_call, post_gathered, post_on}
use Rattle.mpx_meaning.specs.Evaluation.{IsPrefixOf}
use Rattle.mpx_bus.specs.declared.act.Setup.{Setup}
use Rattle.mpx_bus.specs.Rule.{planned_posts}
use Rattle.mpx_ticket.specs.declared.ticket.Ticket.{Ticket}
pub use Rattle.mpx_shared.specs.LawfulPorts.{planned_birth}
use Rattle.mpx_rank.specs.Answered.{answer_of}
use Rattle.mpx_rank.specs.Carriers.{IsToldWithin, Terms, outcomes_of, placed}
use Rattle.mpx_rank.specs.Places.{CommunicatorView, attempt_by, bound_as}
use Rattle.mpx_threads.specs.declared.desk.Said.{Said}
use Rattle.mpx_threads.specs.declared.told.ToldCall.{ToldCall}
use Rattle.mpx_threads.specs.Plans.{planned_results}

-- each of these was answered so
abbrev pub AreSo : Results → List ToldCall → Type 0
AreSo known told = (i : ℕ) (t : ToldCall) → slice_get told i ≡ Some t → known t.name t.call ≡ Some (answer_of t.answered)

-- it is this call
abbrev pub is_at : Name → ℕ → ToldCall → Bool
is_at name call t = (t.call == call) && same_name t.name name

-- the call is one of these
abbrev pub is_among : List ToldCall → Name → ℕ → Bool
is_among [] name call = false
is_among (t ∷ ts) name call = is_at name call t || is_among ts name call

-- of these answers those of calls that were told
abbrev pub told_of : Results → List ToldCall → Results
told_of known told name call = cond (is_among told name call) (known name call) None

-- THE CARRIER

-- the context and the number of a ticket's call
abbrev pub place_of : Ticket → Name × ℕ
place_of ticket = (ticket.name, ticket.call)

-- what a rank was told, and how many posts it has made
abbrev pub DeskView : Type 0
DeskView = List ToldCall × ℕ

-- the first so many posts of the plan of this process
abbrev pub first_posts : Setup → (me count : ℕ) → List Made
first_posts setup me count = take count (planned_posts setup me)

-- the statement may be posted: its communicator came to be as the plan's posts say, and where it comes to a post, that is the plan's next
pub record MayPost (setup : Setup) (me count : ℕ) (posting : Posting) (on : Option CommunicatorView) : Type 0 where
  pub planned : setup.planned ≡ true
  pub born : (c : CommunicatorView) → on ≡ Some c → planned_birth setup c.0 ≡ Some c.1
  pub next : (m : Made) → attempt_by setup.operations me (first_posts setup me count) posting on ≡ Ok m → slice_get (planned_posts setup me) count ≡ Some m

-- a process can post by these operations: they are the setup's, all parts of its ledger are its own, and its posts are planned
abbrev pub CanPost : List Operation → Setup → (all parts : ℕ) → Type 0
CanPost operations setup all parts = (operations ≡ setup.operations) × (((all ≡ parts) × (0 < parts)) × (setup.planned ≡ true))

-- where the post on a gathering of these ranks below the context comes to a post, by the plan, that is the plan's next
abbrev pub IsNextGathered : Setup → (me count : ℕ) → (parent : Name) → (tag : ℤ) → (ranks : List ℤ) → Draft → Type 0
IsNextGathered setup me count parent tag ranks draft = (birth : BirthView) (m : Made) → planned_birth setup parent ≡ Some birth
    → post_gathered setup.operations me (first_posts setup me count) draft parent (gathering birth me (length parent) (has_freed parent (first_posts setup me count)) tag ranks) ≡ Ok m → slice_get (planned_posts setup me) count ≡ Some m

-- where the statement comes to a post on the context, or on a gathering below it, by the plan, that is the plan's next
abbrev pub IsNextIn : Setup → (me count : ℕ) → Name → Posting → Type 0
IsNextIn setup me count name posting = (birth : BirthView) (m : Made) → planned_birth setup name ≡ Some birth
    → attempt_in setup.operations me (first_posts setup me count) (draft_of posting) (gathers_of posting) name birth ≡ Ok m → slice_get (planned_posts setup me) count ≡ Some m

-- after the first posts of a plan the outcome of an attempt is told, and one post more is made; or nothing was posted, now; or it is
-- refused; or memory was wanting
abbrev pub Tried : List Made → Result Made PostError → Result (Option (Name × ℕ)) PostError → (old new : ℕ) → Type 0
Tried made outcome (Ok (Some place)) old new = (m : Made) × (outcome ≡ Ok m) × (place.0 ≡ m.name) × (place.1 ≡ next_call m.name made) × (new ≡ old + 1)
Tried made outcome (Ok None) old new = new ≡ old
Tried made outcome (Err refusal) old new = (refusal ≡ OutOfMemory → ⊥) → (outcome ≡ Err refusal) × (new ≡ old)

-- the same of an outcome that is a function of how the context came to be
abbrev pub CallComesTo : Setup → Name → (BirthView → Result Made PostError) → List Made → Result (Option (Name × ℕ)) PostError → (old new : ℕ) → Type 0
CallComesTo setup name outcome made result old new = (birth : BirthView) → planned_birth setup name ≡ Some birth → Tried made (outcome birth) result old new

-- after the first so many posts of the plan this outcome is told, or nothing was posted, now
abbrev pub PostsAs : Setup → (me before : ℕ) → Name → (List Made → BirthView → Result Made PostError) → Result (Option Ticket) PostError → (old new : ℕ) → Type 0
PostsAs setup me before name outcome result old new =
    CallComesTo setup name (outcome (first_posts setup me (before + old))) (first_posts setup me (before + old)) (placed place_of result) old new

-- what a statement comes to after these posts: on a context that came to be so, on a gathering of these ranks below it, or on the
-- one of these that it asks for
abbrev pub on_context : List Operation → (me : ℕ) → Posting → Name → List Made → BirthView → Result Made PostError
on_context ops me posting name made birth = post_on ops me made (draft_of posting) name birth

abbrev pub on_gathering : List Operation → (me : ℕ) → Posting → (parent : Name) → (tag : ℤ) → (ranks : List ℤ) → List Made → BirthView → Result Made PostError
on_gathering ops me posting parent tag ranks made birth = post_gathered ops me made (draft_of posting) parent (gathering birth me (length parent) (has_freed parent made) tag ranks)

abbrev pub on_either : List Operation → (me : ℕ) → Posting → Name → List Made → BirthView → Result Made PostError
on_either ops me posting name made birth = attempt_in ops me made (draft_of posting) (gathers_of posting) name birth

-- more may be told, and nothing is posted
abbrev pub HearsMore : DeskView → DeskView → Type 0
HearsMore d e = IsPrefixOf d.0 e.0 × (e.1 ≡ d.1)

-- the outcome of the call is told, and the communicator that it gave; or nothing is told of it
abbrev pub TellsCall : Results → List ToldCall → Name → (call : ℕ) → Option Said → Type 0
TellsCall known told name call (Some said) = (answer : Answer) × (told_of known told name call ≡ Some answer) × (said.outcome ≡ answer.outcome) × (bound_as said.given ≡ bound_by answer.outcome answer.born)
TellsCall known told name call None = told_of known told name call ≡ None

-- what was told is of the plan's posts; a communicator is its name and its birth, and is closed where a free is among the first so many
-- posts of the plan; a post is tried after these, where the ledger is whole, the operations that are lent are the setup's, and it is the
-- plan's next; and more may be told
abbrev pub thread_terms : List Operation → Setup → (me before : ℕ) → (ledger : Type 0) → Terms DeskView CommunicatorView
thread_terms operations setup me before ledger = record {
  tells = λ d p. outcomes_of (told_of (planned_results setup me) d.0);
  gives = λ d p name call to. (answer : Answer) × (told_of (planned_results setup me) d.0 name call ≡ Some answer) × (bound_as to ≡ bound_by answer.outcome answer.born);
  knows = λ d c. Some c;
  closes = λ d p c. has_freed c.0 (first_posts setup me (before + d.1));
  may = λ d p posting on. ledger × ((operations ≡ setup.operations) × MayPost setup me (before + d.1) posting on);
  tries = λ d p posting on result e. (e.0 ≡ d.0) × Tried (first_posts setup me (before + d.1)) (attempt_by setup.operations me (first_posts setup me (before + d.1)) posting on) result d.1 e.1;
  hears = HearsMore;
}

-- WHAT STAYS TOLD

append-nil : {A : Type 0} (xs : List A) → xs ++ [] ≡ xs
append-nil [] = refl
append-nil (x ∷ xs) = ap (λ ys. x ∷ ys) (append-nil xs)

append-assoc : {A : Type 0} (xs ys zs : List A) → (xs ++ ys) ++ zs ≡ xs ++ (ys ++ zs)
append-assoc [] ys zs = refl
append-assoc (x ∷ xs) ys zs = ap (λ l. x ∷ l) (append-assoc xs ys zs)

pub hears_nothing : (d : DeskView) → HearsMore d d
hears_nothing d = (([], append-nil d.0), refl)

pub hears_more : (a b c : DeskView) → HearsMore a b → HearsMore b c → HearsMore a c
hears_more a b c h k = ((h.0.0 ++ k.0.0, sym (append-assoc a.0 h.0.0 k.0.0) ∙ ap (λ xs. xs ++ k.0.0) h.0.1 ∙ k.0.1), k.1 ∙ h.1)

-- what is among some is among more
pub among_more : (xs ys : List ToldCall) (name : Name) (call : ℕ) → is_among xs name call ≡ true → is_among (xs ++ ys) name call ≡ true
among_more [] ys name call e = cc e
among_more (t ∷ xs) ys name call e = by_first (is_at name call t) e (among_more xs ys name call) where
  by_first : (b : Bool) → (b || is_among xs name call) ≡ true → (is_among xs name call ≡ true → is_among (xs ++ ys) name call ≡ true) → (b || is_among (xs ++ ys) name call) ≡ true
  by_first true f rest = refl
  by_first false f rest = rest f

-- and its outcome is told
pub told_more : (known : Results) (some more : List ToldCall) → IsPrefixOf some more → IsToldWithin (outcomes_of (told_of known some)) (outcomes_of (told_of known more))
told_more known some more prefix name call outcome e = by_test (is_among some name call) refl e where
  by_test : (b : Bool) → is_among some name call ≡ b → option_map (λ (a : Answer). a.outcome) (cond b (known name call) None) ≡ Some outcome → outcomes_of (told_of known more) name call ≡ Some outcome
  by_test true f g =
      let there : is_among more name call ≡ true = subst (λ xs. is_among xs name call ≡ true) prefix.1 (among_more some prefix.0 name call f) in
      ap (λ b. option_map (λ (a : Answer). a.outcome) (cond b (known name call) None)) there ∙ g
  by_test false f g = cc g

pub stays_told : (setup : Setup) (me : ℕ) (a b : DeskView) → HearsMore a b → (p : ℕ) → IsToldWithin (outcomes_of (told_of (planned_results setup me) a.0)) (outcomes_of (told_of (planned_results setup me) b.0))
stays_told setup me a b h p = told_more (planned_results setup me) a.0 b.0 h.0
