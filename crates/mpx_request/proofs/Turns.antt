-- Counting turns, and looking between them.
use Rattle.std.proofs.Common.{◌≡◌, ℕ, zero, suc, ◌+◌, ◌-◌, ◌<◌, ◌≤◌, inl, inr, refl, subst, arith}
use Rattle.mpx_request.specs.declared.answers.TurnError.{TurnError}
use Rattle.mpx_request.specs.declared.answers.TurnError.TheVariants.{OutOfMemory}
use Rattle.mpx_node.specs.Nodes.{NodeView}
use Rattle.mpx_request.specs.Later.{Later}
use Rattle.mpx_request.specs.Turns.{Looks, Awaits, GivesUp}
use Rattle.mpx_request.proofs.Steps.{later_none, later_more}

module _ {H : Type 0} (turned : H → ℕ → H → Type 0) (more : (a b c : H) (m n : ℕ) → turned a m b → turned b n c → turned a (m + n) c) where
  -- no turn more
  pub and_none : (a b c : H) (m : ℕ) → turned a m b → turned b 0 c → turned a m c
  and_none a b c m x y = let same : m + 0 ≡ m = omega arith in subst (λ n. turned a n c) same (more a b c m 0 x y)

  module _ (node : H → NodeView) (is_pending : NodeView → Type 0) where
    -- no look yet
    pub awaits_none : (h : H) (turns : ℕ) → turned h 0 h → Awaits node turned is_pending h (turns - turns) h
    awaits_none h turns none =
        let same : 0 ≡ turns - turns = omega arith in
        subst (λ n. Awaits node turned is_pending h n h) same (none, (none, later_none (node h)))

    looked : (a b c : H) (n : ℕ) → Looks node turned is_pending a n b → turned b 0 c → Later (node b) (node c) → Looks node turned is_pending a n c
    looked a b c zero l none later = (and_none a b c 0 l.0 none, later_more (node a) (node b) (node c) l.1 later)
    looked a b c (suc n) (look, before, pending, (turn, since)) none later = (look, before, pending, (and_none look b c 1 turn none, later_more (node look) (node b) (node c) since later))

    -- one more look
    pub awaits_look : (a b c : H) (n : ℕ) → Awaits node turned is_pending a n b → turned b 0 c → Later (node b) (node c) → Awaits node turned is_pending a n c
    awaits_look a b c n w none later = (and_none a b c n w.0 none, looked a b c n w.1 none later)

    -- one more look at which it was pending, and a turn
    pub awaits_turn : (a b c d : H) (turns left : ℕ) → left ≤ turns → 0 < left → Awaits node turned is_pending a (turns - left) b → turned b 0 c → Later (node b) (node c) → is_pending (node c) → turned c 1 d → Later (node c) (node d) → Awaits node turned is_pending a (turns - (left - 1)) d
    awaits_turn a b c d turns left l some w none later pending turn since =
        let seen : Awaits node turned is_pending a (turns - left) c = awaits_look a b c (turns - left) w none later in
        let same : suc (turns - left) ≡ turns - (left - 1) = omega (arith, l, some) in
        let one : (turns - left) + 1 ≡ suc (turns - left) = omega arith in
        subst (λ n. Awaits node turned is_pending a n d) same (subst (λ n. turned a n d) one (more a c d (turns - left) 1 seen.0 turn), (c, seen.1, pending, (turn, since)))

    -- the last look
    pub awaits_end : (a b c : H) (turns left : ℕ) → left ≡ 0 → Awaits node turned is_pending a (turns - left) b → turned b 0 c → Later (node b) (node c) → Awaits node turned is_pending a turns c
    awaits_end a b c turns left end w none later =
        let same : turns - left ≡ turns = omega (arith, end) in
        subst (λ n. Awaits node turned is_pending a n c) same (awaits_look a b c (turns - left) w none later)

    -- given up at a look
    pub gives_up_look : (refused : H → TurnError → H → Type 0) (at_hand : NodeView → Type 0) (a b c : H) (turns left : ℕ) → Awaits node turned is_pending a (turns - left) b → turned b 0 c → Later (node b) (node c) → at_hand (node c) → GivesUp node turned refused is_pending at_hand OutOfMemory turns a c
    gives_up_look refused at_hand a b c turns left w none later here =
        inl (refl, (turns - left, omega arith, awaits_look a b c (turns - left) w none later, here))

    -- given up by a turn after a look at which it was pending
    pub gives_up_turn : (refused : H → TurnError → H → Type 0) (at_hand : NodeView → Type 0) (why : TurnError) (a b c d : H) (turns left : ℕ) → left ≤ turns → 0 < left → Awaits node turned is_pending a (turns - left) b → turned b 0 c → Later (node b) (node c) → is_pending (node c) → refused c why d → GivesUp node turned refused is_pending at_hand why turns a d
    gives_up_turn refused at_hand why a b c d turns left l some w none later pending refuses =
        let few : turns - left < turns = omega (arith, l, some) in
        inr (turns - left, c, few, awaits_look a b c (turns - left) w none later, pending, refuses)
