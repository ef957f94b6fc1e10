-- Results that a process has had, let go since or not.
use Rattle.std.specs.Prelude.{◌≡◌, ◌++◌, ℕ, List, [], Some}
use Rattle.std.proofs.Common.{refl, sym, ap, ◌∙◌, append_assoc}
use Rattle.std.proofs.lemmas.List.{append-nil}
use Rattle.mpx_bus.specs.Acts.{node_at}
use Rattle.mpx_bus.specs.declared.act.Act.{Act}
use Rattle.mpx_bus.specs.declared.act.Setup.{Setup}
use Rattle.mpx_bus.specs.Ports.{IsSamePort, PortView, node_in}
use Rattle.mpx_name.specs.Name.{Name}
use Rattle.mpx_node.specs.declared.finished.Finished.{Finished}
use Rattle.mpx_node.specs.Nodes.{result_on}
use Rattle.mpx_ranks.specs.Members.{same_itself, same_then}

-- at some moment, once the process had done the first of these acts, its node had this result of the call
pub record HadBy (setup : Setup) (me : ℕ) (acts : List Act) (name : Name) (call : ℕ) (finished : Finished) : Type 0 where
  pub early : List Act
  pub late : List Act
  pub whole : acts ≡ early ++ late
  pub has : result_on (node_at setup me early) name call ≡ Some finished

-- a port has had it
abbrev pub HadIn : PortView → Name → (call : ℕ) → Finished → Type 0
HadIn b name call finished = HadBy b.setup b.me b.journal name call finished

-- a port has done more, and taken none of its acts back
pub record DoesMore (a b : PortView) : Type 0 where
  pub more : List Act
  pub whole : b.journal ≡ a.journal ++ more

-- the same port, which goes on
abbrev pub GoesOn : PortView → PortView → Type 0
GoesOn a b = IsSamePort a b × DoesMore a b

-- ONE PORT

pub does_nothing : (a b : PortView) → b ≡ a → DoesMore a b
does_nothing a b e = record { more = []; whole = ap (λ (x : PortView). x.journal) e ∙ sym (append-nil a.journal) }

pub does_then : (a b c : PortView) → DoesMore a b → DoesMore b c → DoesMore a c
does_then a b c x y = record { more = x.more ++ y.more; whole = y.whole ∙ ap (λ l. l ++ y.more) x.whole ∙ append_assoc a.journal x.more y.more }

pub goes_nowhere : (a : PortView) → GoesOn a a
goes_nowhere a = (same_itself a, does_nothing a a refl)

pub goes_then : (a b c : PortView) → GoesOn a b → GoesOn b c → GoesOn a c
goes_then a b c x y = (same_then a b c x.0 y.0, does_then a b c x.1 y.1)

-- what its node has it has had
pub has_had_now : (b : PortView) (name : Name) (call : ℕ) (finished : Finished) → result_on (node_in b) name call ≡ Some finished → HadIn b name call finished
has_had_now b name call finished e = record { early = b.journal; late = []; whole = sym (append-nil b.journal); has = e }

-- and that stays so
pub has_had_later : (a b : PortView) (name : Name) (call : ℕ) (finished : Finished) → GoesOn a b → HadIn a name call finished → HadIn b name call finished
has_had_later a b name call finished on had =
    let there : result_on (node_at b.setup b.me had.early) name call ≡ result_on (node_at a.setup a.me had.early) name call = λ i. result_on (node_at (on.0.setup i) (on.0.me i) had.early) name call in
    record {
      early = had.early;
      late = had.late ++ on.1.more;
      whole = on.1.whole ∙ ap (λ l. l ++ on.1.more) had.whole ∙ append_assoc had.early had.late on.1.more;
      has = there ∙ had.has;
    }
