-- What is done in a turn.
use Rattle.std.proofs.Common.{◌≡◌, ℕ, suc, ◌+◌, arith, List, [], ◌∷◌, ◌++◌, refl, sym, ap, ◌∙◌, subst}
use Rattle.std.specs.List.{All}
use Rattle.std.proofs.lemmas.List.Sorted.{IsPermutation-refl}
use Rattle.std.proofs.lemmas.Option.{slice_get-get_or}
use Rattle.mpx_system.specs.Systems.{System, Doing, MayDo, does}
use Rattle.mpx_system.proofs.Leading.{does_all-push, may-push}
use Rattle.mpx_sim.specs.Turns.{Alone, AreAllSo, AreTurns, Coming, FrameView, HasSent, IsIn, IsLeft, IsOwn, IsSaid, IsTaken, IsTurn, IsUnder, LeadsBy, Moment, Phase, Saying, Since, drawn_for}

are-push : (P : Doing → Type 0) (ds : List Doing) (d : Doing) → AreAllSo P ds → P d → AreAllSo P (ds ++ d ∷ [])
are-push P [] d h k = (k, tt)
are-push P (x ∷ ds) d h k = (h.0, are-push P ds d h.1 k)

pub none_by : (P : Doing → Type 0) (ranks : ℕ) (s : System) → LeadsBy P ranks s s
none_by P ranks s = record { doings = []; are = tt; may = tt; reached = refl }

pub more_by : (P : Doing → Type 0) (ranks : ℕ) (from to : System) (d : Doing) → LeadsBy P ranks from to → P d → MayDo ranks to d → LeadsBy P ranks from (does to d)
more_by P ranks from to d l is m = record {
  doings = l.doings ++ d ∷ [];
  are = are-push P l.doings d l.are is;
  may = may-push ranks l.doings d from l.may (subst (λ s. MayDo ranks s d) (sym l.reached) m);
  reached = does_all-push l.doings d from ∙ ap (λ s. does s d) l.reached;
}

-- PHASES

pub under_itself : (frames : List FrameView) → All (IsUnder frames) frames
under_itself frames k d l = (k, slice_get-get_or frames k d l)

-- one more is done
abbrev pub since_on : (ranks size : ℕ) (begun : Moment) (phase : Phase) (frames : List FrameView) (s : System) → Since ranks size begun phase frames s → (d : Doing) → IsIn phase d → MayDo ranks s d → Since ranks size begun phase frames (does s d)
since_on ranks size begun Alone frames s h d is m = (more_by IsOwn ranks begun.system s d h.0 is m, h.1)
since_on ranks size begun Saying frames s h d is m = (record { alone = h.0.alone; own = h.0.own; left = h.0.left; says = more_by IsSaid ranks h.0.alone s d h.0.says is m }, h.1)
since_on ranks size begun (Coming turn t) frames s h d is m = (record { sent = h.0.sent; going = h.0.going; comes = more_by IsTaken ranks h.0.sent.system s d h.0.comes is m; mixed = h.0.mixed }, h.1)

-- the next phase begins
pub begins : (ranks size : ℕ) (m : Moment) → Since ranks size m Alone m.frames m.system
begins ranks size m = (none_by IsOwn ranks m.system, refl)

pub says_now : (ranks size : ℕ) (begun : Moment) (frames : List FrameView) (s : System) → Since ranks size begun Alone frames s → IsLeft ranks s.ranks → Since ranks size begun Saying frames s
says_now ranks size begun frames s h left = (record { alone = s; own = h.0; left = left; says = none_by IsSaid ranks s }, h.1)

abbrev pub comes_now : (ranks size turn : ℕ) (begun sent : Moment) → HasSent ranks size turn begun sent → Since ranks size begun (Coming turn (drawn_for sent.frames sent.schedule)) sent.frames sent.system
comes_now ranks size turn begun sent h = (record { sent = sent; going = h; comes = none_by IsTaken ranks sent.system; mixed = refl }, IsPermutation-refl sent.frames)

-- a turn more
pub turns_more : (turns ranks size : ℕ) (from mid to : Moment) → AreTurns turns ranks size from mid → IsTurn ranks size turns mid to → AreTurns (turns + 1) ranks size from to
turns_more turns ranks size from mid to are is =
    let more : AreTurns (suc turns) ranks size from to = (mid, are, is) in
    let same : suc turns ≡ turns + 1 = omega arith in
    subst (λ n. AreTurns n ranks size from to) same more
