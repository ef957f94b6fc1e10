-- What a port that goes on keeps.
use Rattle.std.proofs.Common.{◌≡◌, ℕ, List, [], ◌∷◌, ◌++◌, Some, None, Option, refl, sym, ap, ◌∙◌, subst, append_assoc}
use mathlib.Core.List.{IsPrefix}
use Rattle.mpx_name.specs.Name.{Name}
use Rattle.mpx_num.specs.declared.own.Operation.{Operation}
use Rattle.mpx_board.specs.Changes.{pruned_on}
use Rattle.mpx_value.specs.Histories.{Made}
use Rattle.mpx_node.specs.declared.finished.Finished.{Finished}
use Rattle.mpx_node.specs.Nodes.{next_result, gathers_on}
use Rattle.mpx_world.specs.Worlds.{ProcessView, stores}
use Rattle.mpx_bus.specs.declared.act.Act.{Act}
use Rattle.mpx_bus.specs.declared.act.Act.TheVariants as A
use Rattle.mpx_bus.specs.declared.act.Setup.{Setup}
use Rattle.mpx_bus.specs.Acts.{act_on, after, at_start, process_at, MayPush}
use Rattle.mpx_bus.specs.Rule.{IsPlanned, planned_posts}
use Rattle.mpx_bus.specs.Ports.{PortView, CanPush, KeepsPlan, IsSamePort, PortGoesOn, PortGoes}
use Rattle.mpx_bus.proofs.Journals.{after-append}
use Rattle.mpx_bus.proofs.Seen.{may_push_later}
use Rattle.mpx_world.proofs.Later.{made_opens, made_drops}

-- an act that is no post
abbrev pub IsNoPost : Act → Type 0
IsNoPost (A.Posted name draft) = ⊥
IsNoPost (A.Harvested name) = Unit {0}
IsNoPost (A.Gathered parent tag ranks) = Unit {0}
IsNoPost (A.Pruned name n) = Unit {0}
IsNoPost (A.Forgot name below) = Unit {0}
IsNoPost (A.Took bytes) = Unit {0}
IsNoPost (A.StoppedTaking bytes left) = Unit {0}
IsNoPost (A.Acknowledged board) = Unit {0}
IsNoPost (A.Pushed bytes) = Unit {0}
IsNoPost (A.Popped bytes) = Unit {0}

abbrev pub NoPosts : List Act → Type 0
NoPosts [] = Unit {0}
NoPosts (a ∷ more) = IsNoPost a × NoPosts more

made_stores : (ops : List Operation) (name : Name) (r : Option Finished) (v : ProcessView) → (stores ops name r v).made ≡ v.made
made_stores ops name None v = refl
made_stores ops name (Some finished) v = refl

made_act : (ops : List Operation) (a : Act) (v : ProcessView) → IsNoPost a → (act_on ops a v).made ≡ v.made
made_act ops (A.Posted name draft) v none = absurd none
made_act ops (A.Harvested name) v none = made_stores ops name (next_result ops v.node name) v
made_act ops (A.Gathered parent tag ranks) v none = made_opens parent (gathers_on v.node parent tag ranks) v
made_act ops (A.Pruned name n) v none = made_drops name n (pruned_on v.node.board name n) v
made_act ops (A.Forgot name below) v none = refl
made_act ops (A.Took bytes) v none = refl
made_act ops (A.StoppedTaking bytes left) v none = refl
made_act ops (A.Acknowledged board) v none = refl
made_act ops (A.Pushed bytes) v none = refl
made_act ops (A.Popped bytes) v none = refl

made_after : (ops : List Operation) (acts : List Act) (v : ProcessView) → NoPosts acts → (after ops acts v).made ≡ v.made
made_after ops [] v none = refl
made_after ops (a ∷ acts) v none = made_after ops acts (act_on ops a v) none.1 ∙ made_act ops a v none.0

pub made_more : (setup : Setup) (p : ℕ) (journal more : List Act) → NoPosts more → (process_at setup p (journal ++ more)).made ≡ (process_at setup p journal).made
made_more setup p journal more none = ap (λ (v : ProcessView). v.made) (after-append setup.operations journal more (at_start setup p)) ∙ made_after setup.operations more (process_at setup p journal) none

-- what it may push it may still push
pub keeps_frames : (a b : PortView) (more : List Act) → IsSamePort a b → b.journal ≡ a.journal ++ more → (bytes : List ℕ) → CanPush a bytes → CanPush b bytes
keeps_frames a b more same grows bytes may =
    subst (λ s. MayPush s b.me b.journal bytes) (sym same.setup)
    (subst (λ m. MayPush a.setup m b.journal bytes) (sym same.me)
    (subst (λ j. MayPush a.setup a.me j bytes) (sym grows) (may_push_later a.setup a.me a.journal more bytes may)))

-- and where it makes no post, it keeps to the plan as before
pub keeps_plan : (a b : PortView) (more : List Act) → IsSamePort a b → b.journal ≡ a.journal ++ more → NoPosts more → KeepsPlan a → KeepsPlan b
keeps_plan a b more same grows none plan =
    subst (λ s. IsPlanned s b.me b.journal) (sym same.setup)
    (subst (λ m. IsPlanned a.setup m b.journal) (sym same.me)
    (subst (λ j. IsPlanned a.setup a.me j) (sym grows)
    (λ planned. subst (λ (ms : List Made). IsPrefix ms (planned_posts a.setup a.me)) (sym (made_more a.setup a.me a.journal more none)) (plan planned))))

pub goes_on : (a b : PortView) (more : List Act) → IsSamePort a b → b.journal ≡ a.journal ++ more → NoPosts more → PortGoesOn a b
goes_on a b more same grows none = record { same = same; keeps = keeps_frames a b more same grows; plan = keeps_plan a b more same grows none }

pub goes : (a b : PortView) (more : List Act) → IsSamePort a b → b.journal ≡ a.journal ++ more → PortGoes a b
goes a b more same grows = record { same = same; keeps = keeps_frames a b more same grows }

pub goes_itself : (a b : PortView) → b ≡ a → PortGoesOn a b
goes_itself a b e = subst (PortGoesOn a) (sym e) (record { same = record { table = refl; pass = refl; setup = refl; me = refl }; keeps = λ bytes may. may; plan = λ plan. plan })

pub goes_then : (a b c : PortView) → PortGoesOn a b → PortGoesOn b c → PortGoesOn a c
goes_then a b c g h = record {
  same = record { table = h.same.table ∙ g.same.table; pass = h.same.pass ∙ g.same.pass; setup = h.same.setup ∙ g.same.setup; me = h.same.me ∙ g.same.me };
  keeps = λ bytes may. h.keeps bytes (g.keeps bytes may);
  plan = λ plan. h.plan (g.plan plan);
}

pub two_acts : (journal new : List Act) (a b : Act) → new ≡ (journal ++ a ∷ []) ++ b ∷ [] → new ≡ journal ++ a ∷ b ∷ []
two_acts journal new a b e = e ∙ append_assoc journal (a ∷ []) (b ∷ [])

-- whatever frames it keeps
pub goes_kept : (a : PortView) (kept : List (List ℕ)) (b : PortView) → PortGoesOn (record a { kept = kept }) b → PortGoesOn a b
goes_kept a kept b g = record { same = record { table = g.same.table; pass = g.same.pass; setup = g.same.setup; me = g.same.me }; keeps = g.keeps; plan = g.plan }
