-- What harvests on a context leave that are made one after the other.
use Rattle.std.proofs.Common.{◌≡◌, ℕ, zero, suc, ◌+◌, ◌-◌, ◌<◌, ◌≤◌, Bool, true, false, cond, List, [], ◌∷◌, ◌++◌, length, Option, Some, None, Result, Ok, Err, OnErr, is_some, refl, sym, ap, ◌∙◌, subst, arith, length-append}
use Rattle.std.specs.Prelude.{nat_lt}
use Rattle.std.specs.Option.{option_map}
use Rattle.std.proofs.lemmas.Bool.Decides.{nat_tests}
use Rattle.join_core.specs.declared.memory.OutOfMemory.{OutOfMemory}
use Rattle.mpx_name.specs.Order.{name_equality}
use Rattle.mpx_name.specs.Name.{Name}
use Rattle.mpx_num.specs.declared.own.Operation.{Operation}
use Rattle.mpx_birth.specs.Births.{BirthView}
use Rattle.mpx_board.specs.Boards.{Look}
use Rattle.mpx_node.specs.declared.node.Harvest.{Harvest}
use Rattle.mpx_node.specs.declared.node.Harvest.TheVariants as H
use Rattle.mpx_node.specs.declared.finished.Finished.{Finished}
use Rattle.mpx_node.specs.Nodes.{NodeView, OpenedView, add_result, front_on, has_next, is_new_to, next_of, next_result, or_new, results_by}
use Rattle.mpx_node.specs.Harvests.{Harvests, harvested, with_next}
use Rattle.mpx_node.proofs.Nexts.{no_next, some_next}

pub on_err : {A E : Type 0} (r : Result A E) (P : Type 0) → P → OnErr r P
on_err (Ok x) P p = tt
on_err (Err e) P p = p

module _ (finished : Finished) where
  abbrev pub one_more : OpenedView → OpenedView
  one_more o = record o { results = o.results ++ Some finished ∷ [] }

  longer : (new : Bool) (o : Option OpenedView) → is_some o ≡ true → length (results_by (cond new (Some (or_new (option_map one_more o))) (option_map one_more o))) ≡ length (results_by o) + 1
  longer new None t = cc t
  longer true (Some o) t = length-append o.results (Some finished ∷ [])
  longer false (Some o) t = length-append o.results (Some finished ∷ [])

module _ (ops : List Operation) (name : Name) where
  is_opened : (o : Option OpenedView) (board : Look) (me : ℕ) (finished : Finished) → next_of ops o board name me ≡ Some finished → is_some o ≡ true
  is_opened None board me finished e = cc e
  is_opened (Some o) board me finished e = refl

  abbrev pub after : Finished → List (Name × BirthView) → NodeView → Bool → Option OpenedView
  after finished made node same =
      let o : Option OpenedView = cond same (option_map (one_more finished) (node.opened name)) (node.opened name) in
      cond (is_new_to node.me made name) (Some (or_new o)) o

  front_next : (node : NodeView) (finished : Finished) (made : List (Name × BirthView)) → next_result ops node name ≡ Some finished → front_on (add_result name finished made node) name ≡ front_on node name + 1
  front_next node finished made is =
      ap (λ b. length (results_by (after finished made node b))) (name_equality.reflexive name)
      ∙ longer finished (is_new_to node.me made name) (node.opened name) (is_opened (node.opened name) node.board node.me finished is)

  -- ONE HARVEST

  done_by : (b : Bool) (next : Option Finished) (node new : NodeView) (k : ℕ) → next_result ops node name ≡ next → Harvests ops b name next (Ok (H.Done k)) node new → (new ≡ with_next ops next name node) × (front_on new name ≡ front_on node name + 1)
  done_by false next node new k is h = cc (h.0)
  done_by true None node new k is h = absurd h
  done_by true (Some f) node new k is h = (h.1, ap (λ (n : NodeView). front_on n name) h.1 ∙ front_next node f _ is)

  not_yet_by : (b : Bool) (next : Option Finished) (node new : NodeView) → Harvests ops b name next (Ok H.NotYet) node new → (next ≡ None) × (new ≡ node)
  not_yet_by false next node new h = cc (h.0)
  not_yet_by true None node new h = (refl, h)
  not_yet_by true (Some f) node new h = absurd h

  not_opened_by : (o : Option OpenedView) (node new : NodeView) → Harvests ops (is_some o) name (next_of ops o node.board name node.me) (Ok H.NotOpened) node new → (next_of ops o node.board name node.me ≡ None) × (new ≡ node)
  not_opened_by None node new h = (refl, h.1)
  not_opened_by (Some o) node new h = none (next_of ops (Some o) node.board name node.me) h where
    none : (next : Option Finished) → Harvests ops true name next (Ok H.NotOpened) node new → (next ≡ None) × (new ≡ node)
    none None g = absurd g
    none (Some f) g = absurd g

  wanting_by : (b : Bool) (next : Option Finished) (e : OutOfMemory) (node new : NodeView) → Harvests ops b name next (Err e) node new → new ≡ node
  wanting_by false next e node new h = cc (h.0)
  wanting_by true None e node new h = absurd h
  wanting_by true (Some f) e node new h = h

  wanting_next : (b : Bool) (next : Option Finished) (e : OutOfMemory) (node new : NodeView) → next_result ops node name ≡ next → Harvests ops b name next (Err e) node new → has_next new name ≡ true
  wanting_next false next e node new is h = cc (h.0)
  wanting_next true None e node new is h = absurd h
  wanting_next true (Some f) e node new is h = ap (λ (n : NodeView). has_next n name) h ∙ some_next ops node name f is

  -- ONE AFTER THE OTHER

  -- where there is no next result, none of these changes anything
  no_more : (k n : ℕ) (old : NodeView) → next_result ops (harvested ops n name old) name ≡ None → harvested ops (k + n) name old ≡ harvested ops n name old
  no_more zero n old none = let e : 0 + n ≡ n = omega arith in ap (λ m. harvested ops m name old) e
  no_more (suc k) n old none =
      let e : suc k + n ≡ suc (k + n) = omega arith in
      ap (λ m. harvested ops m name old) e
      ∙ ap (λ (x : NodeView). with_next ops (next_result ops x name) name x) (no_more k n old none)
      ∙ ap (λ o. with_next ops o name (harvested ops n name old)) none

  -- so many were made on the way to a call
  pub record OnTheWay (call : ℕ) (old now : NodeView) : Type 0 where
    pub times : ℕ
    pub few : times ≤ call + 1 - front_on old name
    pub front : front_on now name ≡ front_on old name + times
    pub is : now ≡ harvested ops times name old

  pub sets_out : (call : ℕ) (old : NodeView) → OnTheWay call old old
  sets_out call old = record { times = 0; few = omega arith; front = omega arith; is = refl }

  abbrev Comes : NodeView → Result Harvest OutOfMemory → NodeView → Type 0
  Comes now answer new = Harvests ops (is_some (now.opened name)) name (next_result ops now name) answer now new

  module _ (call : ℕ) (old now new : NodeView) (way : OnTheWay call old now) where
    did : (h : Harvest) (k : ℕ) → h ≡ H.Done k → Comes now (Ok h) new → (new ≡ with_next ops (next_result ops now name) name now) × (front_on new name ≡ front_on now name + 1)
    did h k is done = done_by (is_some (now.opened name)) (next_result ops now name) now new k refl (subst (λ x. Comes now (Ok x) new) is done)

    pub goes_on : (h : Harvest) (k : ℕ) → h ≡ H.Done k → front_on now name ≤ call → Comes now (Ok h) new → OnTheWay call old new
    goes_on h k is low done =
        let d = did h k is done in
        record {
          times = suc way.times;
          few = omega (arith, way.front, low);
          front = omega (arith, d.1, way.front);
          is = d.0 ∙ ap (λ (x : NodeView). with_next ops (next_result ops x name) name x) way.is;
        }

    pub less_left : (h : Harvest) (k : ℕ) → h ≡ H.Done k → front_on now name ≤ call → Comes now (Ok h) new → call + 1 - front_on new name < call + 1 - front_on now name
    less_left h k is low done = let d = did h k is done in omega (arith, d.1, low)

    pub arrives : call < front_on now name → now ≡ harvested ops (call + 1 - front_on old name) name old
    arrives past =
        let all : way.times ≡ call + 1 - front_on old name = omega (arith, way.few, way.front, past) in
        way.is ∙ ap (λ n. harvested ops n name old) all

    pub gives_up : (e : OutOfMemory) → front_on now name ≤ call → Comes now (Err e) new → (n : ℕ) × (n < call + 1 - front_on old name) × (new ≡ harvested ops n name old)
    gives_up e low h = (way.times, omega (arith, way.front, low), wanting_by (is_some (now.opened name)) (next_result ops now name) e now new h ∙ way.is)

    -- and there was a next result
    pub wanted : (e : OutOfMemory) → Comes now (Err e) new → has_next new name ≡ true
    wanted e h = wanting_next (is_some (now.opened name)) (next_result ops now name) e now new refl h

    -- where none is next
    module _ (none : next_result ops now name ≡ None) (same : new ≡ now) where
      pub stops : new ≡ harvested ops (call + 1 - front_on old name) name old
      stops =
          let none_here : next_result ops (harvested ops way.times name old) name ≡ None = subst (λ (x : NodeView). next_result ops x name ≡ None) way.is none in
          let most : call + 1 - front_on old name ≡ (call + 1 - front_on old name - way.times) + way.times = omega (arith, way.few) in
          same ∙ way.is ∙ sym (no_more (call + 1 - front_on old name - way.times) way.times old none_here) ∙ ap (λ n. harvested ops n name old) (sym most)

      pub has_none : has_next new name ≡ false
      has_none = ap (λ (x : NodeView). has_next x name) same ∙ no_next ops now name none

      pub is_behind : front_on now name ≤ call → false ≡ nat_lt call (front_on new name)
      is_behind low = let past : nat_lt call (front_on now name) ≡ false = grind (arith, nat_tests, low) in sym past ∙ sym (ap (λ (x : NodeView). nat_lt call (front_on x name)) same)

  module _ (now new : NodeView) (h : Harvest) where
    pub not_yet : h ≡ H.NotYet → Comes now (Ok h) new → (next_result ops now name ≡ None) × (new ≡ now)
    not_yet is done = not_yet_by (is_some (now.opened name)) (next_result ops now name) now new (subst (λ x. Comes now (Ok x) new) is done)

    pub not_opened : h ≡ H.NotOpened → Comes now (Ok h) new → (next_result ops now name ≡ None) × (new ≡ now)
    not_opened is done = not_opened_by (now.opened name) now new (subst (λ x. Comes now (Ok x) new) is done)
