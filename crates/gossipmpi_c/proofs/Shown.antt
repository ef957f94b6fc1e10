-- What a run says behind what is shown of it as it goes.
use Rattle.std.proofs.Common.{◌≡◌, ℕ, Bool, true, false, List, [], ◌++◌, inl, inr, refl, subst, sym}
use Rattle.std.specs.Prelude.{◌⊎◌, Vec}
use Rattle.std.specs.declared.alloc.Global.{Global}
use Rattle.mpx_trace.specs.declared.table.Table.{Table}
use Rattle.mpx_trace.specs.declared.trace.Trace.{Trace}
use Rattle.mpx_words.specs.declared.invocation.Invocation.{Invocation}
use Rattle.gossipmpi_c.specs.Runs.{Declines, DoesCall, IsShown, MakesRun, RunsWhole, ShowsCall}

-- a whole trace is shown where it is asked for
pub shows_trace : (asked table : Bool) (trace : Trace (Vec ℕ Global)) (shown : List ℕ) → asked ≡ true → trace.whole ≡ true → shown ≡ trace.out.items → IsShown asked table shown
shows_trace asked table trace shown on whole is = subst (λ (a : Bool). IsShown a table shown) (sym on) (record { trace = trace; whole = whole; is = is })

-- a whole table, where it is asked for and no trace
pub shows_table : (traced asked : Bool) (table : Table (Vec ℕ Global)) (shown : List ℕ) → traced ≡ false → asked ≡ true → table.whole ≡ true → shown ≡ table.out.items → IsShown traced asked shown
shows_table traced asked table shown off on whole is =
    subst (λ (t : Bool). IsShown t asked shown) (sym off) (subst (λ (a : Bool). IsShown false a shown) (sym on) (record { table = table; whole = whole; is = is }))

-- and nothing, where neither is
pub shows_nothing : (trace table : Bool) → trace ≡ false → table ≡ false → IsShown trace table []
shows_nothing trace table off none = subst (λ (t : Bool). IsShown t table []) (sym off) (subst (λ (a : Bool). IsShown false a []) (sym none) refl)

-- what is said stands behind it
pub behind_shown : (call : Invocation) (script shown printed words said all : List ℕ) (status code : ℕ) → IsShown call.flags.trace call.flags.table shown → DoesCall call script printed words status
    → said ≡ shown ++ words → all ≡ printed → code ≡ status → ShowsCall call script all said code
behind_shown call script shown printed words said all status code shows does is same_printed same_status = record {
  shown = shown;
  words = words;
  is_shown = shows;
  does = subst (λ (n : ℕ). DoesCall call script all words n) (sym same_status) (subst (λ (xs : List ℕ). DoesCall call script xs words status) (sym same_printed) does);
  is = is;
}

-- a call that was asked for makes a run, or is declined
pub whole_of : (options script printed said : List ℕ) (status : ℕ) → MakesRun options script printed said status ⊎ Declines options printed said status → RunsWhole options script printed said status
whole_of options script printed said status (inl runs) = inl runs
whole_of options script printed said status (inr declines) = inr (inr declines)
