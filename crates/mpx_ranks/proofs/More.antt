-- What a port does in a call or a turn it does beside what it did.
use Rattle.std.proofs.Common.{◌≡◌, ℕ, List, [], ◌∷◌, ◌++◌, Result, Ok, Err, refl, subst, sym, ap, ◌∙◌, ⊎_elim}
use Rattle.std.specs.Prelude.{◌≢◌, IfErr, IfOk, OnErr, OnOk}
use Rattle.std.proofs.lemmas.List.{append-nil}
use Rattle.join_core.specs.declared.memory.OutOfMemory.{OutOfMemory}
use Rattle.mpx_bus.specs.Answers.{HarvestsOne, PopsOne, PushesLast, PushesNext, Stopped}
use Rattle.mpx_bus.specs.declared.act.Act.{Act}
use Rattle.mpx_bus.specs.declared.act.Act.TheVariants as A
use Rattle.mpx_bus.specs.declared.port.Pop.{Pop}
use Rattle.mpx_bus.specs.declared.port.Pop.TheVariants as O
use Rattle.mpx_bus.specs.declared.port.Push.{Push}
use Rattle.mpx_bus.specs.declared.port.Push.TheVariants as P
use Rattle.mpx_bus.specs.Ports.{HasListed, PortView}
use Rattle.mpx_name.specs.Name.{Name}
use Rattle.mpx_node.specs.declared.node.Harvest.{Harvest}
use Rattle.mpx_node.specs.declared.node.Harvest.TheVariants as H
use Rattle.mpx_ranks.proofs.Quiet.{two}
use Rattle.mpx_ranks.specs.Had.{DoesMore, GoesOn, does_nothing, does_then, goes_nowhere}

pub does_one : (a b : PortView) (act : Act) → b.journal ≡ a.journal ++ act ∷ [] → DoesMore a b
does_one a b act e = record { more = act ∷ []; whole = e }

does_two : (a b : PortView) (x y : Act) → b.journal ≡ (a.journal ++ x ∷ []) ++ y ∷ [] → DoesMore a b
does_two a b x y e = record { more = x ∷ y ∷ []; whole = two a.journal x y b.journal e }

-- one act, or none
pub does_or_not : {T E : Type 0} (r : Result T E) (a b : PortView) (act : Act) → OnOk r (b.journal ≡ a.journal ++ act ∷ []) → OnErr r (b ≡ a) → DoesMore a b
does_or_not (Ok t) a b act ok err = does_one a b act ok
does_or_not (Err e) a b act ok err = does_nothing a b err

pub does_harvest : (name : Name) (r : Result Harvest OutOfMemory) (a b : PortView) → HarvestsOne name r a b → DoesMore a b
does_harvest name (Ok (H.Done call)) a b e = does_one a b (A.Harvested name) e
does_harvest name (Ok H.NotYet) a b e = does_nothing a b e
does_harvest name (Ok H.NotOpened) a b e = does_nothing a b e
does_harvest name (Err wanting) a b e = does_nothing a b e

-- WHAT THE BUS ANSWERS

pub does_pop : (pop : Pop) (a b : PortView) → PopsOne pop a b → DoesMore a b
does_pop (O.Took frame) a b p = does_two a b (A.Popped frame) (A.Took frame) p
does_pop O.Empty a b p = does_nothing a b p
does_pop (O.OutOfMemory frame) a b p =
    ⊎_elim
    (λ (e : b.journal ≡ a.journal ++ A.Popped frame ∷ []). does_one a b (A.Popped frame) e)
    (λ (e : Stopped frame a b). does_two a b (A.Popped frame) (A.StoppedTaking frame e.left) e.journal)
    p

does_last : (push : Push) (bytes : List ℕ) (a listed b : PortView) → DoesMore a listed → PushesLast bytes push listed b → DoesMore a b
does_last P.Pushed bytes a listed b more p = does_then a listed b more (does_one listed b (A.Pushed bytes) p)
does_last (P.Full frame) bytes a listed b more p = does_then a listed b more (record { more = []; whole = p.1.0 ∙ sym (append-nil listed.journal) })

does_next : (limit : ℕ) (push : Push) (a b : PortView) → PushesNext limit push a b → DoesMore a b
does_next limit push a b p =
    ⊎_elim
    (λ (e : (a.kept ≢ []) × (p.listed ≡ a)). does_last push p.bytes a p.listed b (does_nothing a p.listed e.1) p.pushes)
    (λ (e : (a.kept ≡ []) × HasListed limit a p.listed). does_last push p.bytes a p.listed b (does_one a p.listed (A.Acknowledged e.1.said) e.1.journal) p.pushes)
    p.lists

pub does_push : (limit : ℕ) (r : Result Push OutOfMemory) (a b : PortView) → IfOk r (λ push. PushesNext limit push a b) → OnErr r (b ≡ a) → DoesMore a b
does_push limit (Ok push) a b next err = does_next limit push a b next
does_push limit (Err e) a b next err = does_nothing a b err

-- whether a turn is made or not
pub goes_either : {T E : Type 0} (r : Result T E) (a b : PortView) (P : E → Type 0) → OnOk r (GoesOn a b) → IfErr r (λ e. GoesOn a b × P e) → GoesOn a b
goes_either (Ok t) a b P ok err = ok
goes_either (Err e) a b P ok err = err.0

-- where nothing is done
pub goes_still : (a b : PortView) → b ≡ a → GoesOn a b
goes_still a b e = subst (GoesOn a) (sym e) (goes_nowhere a)
