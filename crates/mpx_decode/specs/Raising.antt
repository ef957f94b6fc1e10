-- What is joined in as its bytes are read.
use Rattle.std.specs.Prelude.{◌≡◌, ◌⊎◌, ◌+◌, ◌≤◌, ℕ, zero, suc, nat_le, Bool, true, List, length, set, Some, None, Ok}
use Rattle.std.specs.List.{insert as put_in}
use Rattle.std.proofs.Common.{cond}
use Rattle.std.specs.declared.cmp.Ordering.{Ordering}
use Rattle.std.specs.Ordering.{eq_by_cmp, nat_cmp}
use Rattle.std.specs.FinMap.{FinMap, empty, entries, find, from_sorted, get, insert}
use Rattle.join_core.specs.Joins.{Joining}
use Rattle.join_nest.specs.Between.{option_between}
use Rattle.join_nest.specs.Keyed.{keyed_joining}
use Rattle.join_nest.specs.Optional.{option_join}
use Rattle.join_nest.specs.Seen.{seen}
use Rattle.join_nest.specs.Trunc.{TruncView, trunc_of}
use Rattle.mpx_format.specs.Format.{Format, both, many, through}
use Rattle.mpx_format.specs.Rising.{always, entry, keyed}
use Rattle.mpx_format.specs.Contexts.{lifted, says_something}
use Rattle.mpx_format.specs.Fields.{name, name_count}
use Rattle.mpx_format.specs.declared.versions.Version.{Version}
use Rattle.mpx_board.specs.Parts.{LiftedView, OfNames, PartsView}
use Rattle.mpx_name.specs.Order.{name_cmp}

-- some value stands at the front of the bytes
abbrev pub StandsInFront : {V : Type 0} → Format V → List ℕ → Type 0
StandsInFront {V} f bytes = (x : V × List ℕ) × (f.read bytes ≡ Ok x)

-- and passes the test
abbrev pub StandsTidy : {V : Type 0} → Format V → (V → Bool) → List ℕ → Type 0
StandsTidy {V} f test bytes = (x : V × List ℕ) × (f.read bytes ≡ Ok x) × (test x.0 ≡ true)

-- the value at the front was joined to the old one; these bytes stand behind it
pub record JoinsFront {V : Type 0} (f : Format V) (j : Joining V) (bytes rest : List ℕ) (old new : V) : Type 0 where
  pub value : V
  pub read : f.read bytes ≡ Ok (value, rest)
  pub joined : new ≡ j.join old value

-- what is left is between the old value and its join with the one at the front
pub record StopsBetween {V : Type 0} (f : Format V) (between : V → V → V → Type 0) (bytes : List ℕ) (old new : V) : Type 0 where
  pub value : V
  pub rest : List ℕ
  pub read : f.read bytes ≡ Ok (value, rest)
  pub left : between old value new

-- the parts of a board that knows nothing
abbrev pub no_parts : PartsView
no_parts = (empty, empty)

-- a key, and then its value
abbrev pub row : {K V : Type 0} → Format K → Format V → Format (K × V)
row key value = both key (λ k. value)

-- a map of so many entries, in the rising order of their keys
abbrev pub rows : {K V : Type 0} (R : K → K → Ordering) → Format K → Format V → ℕ → Format (FinMap R V)
rows R key value count = through (from_sorted {R = R}) (λ m. Some (entries m)) (many (entry R None key value always) count)

module _ {K J V : Type 0} (R : K → K → Ordering) (view : J → V) (old new : List (K × J)) where
  -- at the key of the row stands the join with its value, and all else as before
  abbrev pub IsJoinedAt : Joining V → K → V → Type 0
  IsJoinedAt j k v = (q : K) → find R q (seen view new) ≡ cond (eq_by_cmp R q k) (option_join j (find R k (seen view old)) (Some v)) (find R q (seen view old))

  -- what stands at the key is between that and the old value, and all else as before
  abbrev pub IsLeftAt : (V → V → V → Type 0) → K → V → Type 0
  IsLeftAt between k v = (q : K) → option_between between (find R q (seen view old)) (cond (eq_by_cmp R q k) (Some v) None) (find R q (seen view new))

-- the row at the front was joined in
pub record RaisesRow {K J V : Type 0} (R : K → K → Ordering) (view : J → V) (f : Format (K × V)) (j : Joining V) (bytes rest : List ℕ) (old new : List (K × J)) : Type 0 where
  pub key : K
  pub value : V
  pub read : f.read bytes ≡ Ok ((key, value), rest)
  pub joined : IsJoinedAt R view old new j key value

-- it was joined in, in part or not at all
pub record StopsRow {K J V : Type 0} (R : K → K → Ordering) (view : J → V) (f : Format (K × V)) (between : V → V → V → Type 0) (bytes : List ℕ) (old new : List (K × J)) : Type 0 where
  pub key : K
  pub value : V
  pub rest : List ℕ
  pub read : f.read bytes ≡ Ok ((key, value), rest)
  pub left : IsLeftAt R view old new between key value

-- the entry before this place was changed, or put in there
pub record IsChangedAt {A : Type 0} (after : ℕ) (old new : List A) : Type 0 where
  pub at : ℕ
  pub entry : A
  pub next : after ≡ at + 1
  pub within : at ≤ length old
  pub made : (new ≡ set old at entry) ⊎ (new ≡ put_in old at entry)

-- so many rows at the front were joined in, one after the other
abbrev pub RaisesRows : {K J V : Type 0} (R : K → K → Ordering) (view : J → V) (f : Format (K × V)) (j : Joining V) → ℕ → (bytes rest : List ℕ) → (old new : List (K × J)) → Type 0
RaisesRows R view f j zero bytes rest old new = (rest ≡ bytes) × (new ≡ old)
RaisesRows {K} {J} R view f j (suc n) bytes rest old new = (after : List ℕ) × (mid : List (K × J)) × RaisesRow R view f j bytes after old mid × RaisesRows R view f j n after rest mid new

-- CALLS ABOVE A DROPPED FRONT

-- the call at the front was joined in, where it isn't below the dropped front
pub record RaisesCall {V : Type 0} (f : Format (ℕ × V)) (j : Joining V) (bytes rest : List ℕ) (old new : TruncView V) : Type 0 where
  pub key : ℕ
  pub value : V
  pub read : f.read bytes ≡ Ok ((key, value), rest)
  pub dropped : new.dropped ≡ old.dropped
  pub joined : (q : ℕ) → nat_le old.dropped q ≡ true → get new.calls q ≡ cond (eq_by_cmp nat_cmp q key) (option_join j (get old.calls q) (Some value)) (get old.calls q)

-- it was joined in, in part or not at all
pub record StopsCall {V : Type 0} (f : Format (ℕ × V)) (between : V → V → V → Type 0) (bytes : List ℕ) (old new : TruncView V) : Type 0 where
  pub key : ℕ
  pub value : V
  pub rest : List ℕ
  pub read : f.read bytes ≡ Ok ((key, value), rest)
  pub dropped : new.dropped ≡ old.dropped
  pub left : (q : ℕ) → nat_le old.dropped q ≡ true → option_between between (get old.calls q) (cond (eq_by_cmp nat_cmp q key) (Some value) None) (get new.calls q)

-- those calls that aren't below the dropped front were joined in
pub record RaisesCalls {V : Type 0} (f : Format (FinMap nat_cmp V)) (j : Joining V) (bytes rest : List ℕ) (old new : TruncView V) : Type 0 where
  pub calls : FinMap nat_cmp V
  pub read : f.read bytes ≡ Ok (calls, rest)
  pub joined : new ≡ trunc_of old.dropped ((keyed_joining j).join old.calls calls)

-- they were joined in, in part or not at all
pub record StopsCalls {V : Type 0} (f : Format (FinMap nat_cmp V)) (between : V → V → V → Type 0) (bytes : List ℕ) (old new : TruncView V) : Type 0 where
  pub calls : FinMap nat_cmp V
  pub rest : List ℕ
  pub read : f.read bytes ≡ Ok (calls, rest)
  pub dropped : new.dropped ≡ old.dropped
  pub left : (q : ℕ) → nat_le old.dropped q ≡ true → option_between between (get old.calls q) (get calls q) (get new.calls q)

-- a call that isn't held was put in, or left out where it is below the dropped front
pub record PutsCall {V : Type 0} (f : Format V) (key : ℕ) (bytes rest : List ℕ) (old new : TruncView V) : Type 0 where
  pub value : V
  pub read : f.read bytes ≡ Ok (value, rest)
  pub put : new.calls ≡ cond (nat_le old.dropped key) (insert old.calls key value) old.calls

-- what is said of contexts
abbrev pub contexts : Version → Format (OfNames LiftedView)
contexts version = keyed name_cmp name_count name (lifted version) says_something
