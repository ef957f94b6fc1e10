-- When the world that the queue and its passes show is one that can be reached.
use Rattle.std.specs.Prelude.{◌≡◌, ℕ, ◌+◌, ◌≤◌, List, [], map, length, true, Bool, Option, Some, None, slice_get}
use mathlib.Core.Option.{some}
use mathlib.Core.List.{IsPrefix}
use lib.ListN.{get_elem?, get_or}
use Rattle.mpx_name.specs.Name.{Name}
use Rattle.mpx_post.specs.Posts.{Given}
use Rattle.mpx_board.specs.Boards.{Look}
use Rattle.mpx_board.specs.Contexts.{look_of}
use Rattle.mpx_board.specs.Parts.{PartsView}
use Rattle.mpx_format.specs.Decoding.{IsSpelled}
use Rattle.mpx_value.specs.Histories.{Made}
use Rattle.mpx_world.specs.Worlds.{WorldView, Happening, MayGoOn, goes_on}
use Rattle.mpx_bus.specs.declared.act.Act.{Act}
use Rattle.mpx_bus.specs.declared.act.Act.TheVariants as A
use Rattle.mpx_bus.specs.declared.act.Setup.{Setup}
use Rattle.mpx_bus.specs.declared.act.Seen.{Seen}
use Rattle.mpx_bus.specs.declared.act.View.{View}
use Rattle.mpx_bus.specs.Acts.{DidIn, at_start, process_at, start_of}
use Rattle.mpx_bus.specs.Counted.{all_pushed, all_popped}

-- which pass stands for a process, and at which place of its list
abbrev pub Seating : Type 0
Seating = ℕ → Option (ℕ × ℕ)

-- the bytes spell a part that was sent
pub record IsSent (parts : List Look) (bytes : List ℕ) : Type 0 where
  pub view : PartsView
  pub spells : IsSpelled bytes view
  pub place : ℕ
  pub sent : slice_get parts place ≡ Some (look_of view)

-- some process pushed this frame
pub record IsPushed (views : List View) (bytes : List ℕ) : Type 0 where
  pub pass : ℕ
  pub view : View
  pub here : get_elem? views pass ≡ some view
  pub place : ℕ
  pub seen : Seen
  pub there : slice_get view.seats place ≡ Some seen
  pub pushed : DidIn seen.journal (A.Pushed bytes)

abbrev pub made_of : Name × Given → Made
made_of x = record { name = x.0; given = x.1 }

-- the posts of a process that the plan allows
abbrev pub planned_posts : Setup → ℕ → List Made
planned_posts setup me = map made_of (get_or setup.plan me [])

-- where there is a plan, the posts of each process begin its list
abbrev pub BeginsPlan : Setup → WorldView → Type 0
BeginsPlan setup w = setup.planned ≡ true → (p : ℕ) → IsPrefix ((w.each p).made) (planned_posts setup p)

-- where there is a plan, the posts of this process begin its list
abbrev pub IsPlanned : Setup → (process : ℕ) → List Act → Type 0
IsPlanned setup p journal = setup.planned ≡ true → IsPrefix ((process_at setup p journal).made) (planned_posts setup p)

-- the world that this leads to from the start
abbrev pub world_of : Setup → List Happening → WorldView
world_of setup hs = goes_on (start_of setup) hs

-- all that can happen leads to a world, sound by the laws of worlds, in which the process stands so, and in which each frame that
-- it popped was sent. Where there is a plan, it begins the plan
pub record Stood (setup : Setup) (process : ℕ) (journal : List Act) : Type 0 where
  pub happenings : List Happening
  pub may : MayGoOn (start_of setup) happenings
  pub stands : (world_of setup happenings).each process ≡ process_at setup process journal
  pub sent : (bytes : List ℕ) → DidIn journal (A.Popped bytes) → IsSent (world_of setup happenings).parts bytes
  pub planned : BeginsPlan setup (world_of setup happenings)

-- one process at this place of this pass
pub record FitsSeat (w : WorldView) (seat : Seating) (setup : Setup) (pass place : ℕ) (s : Seen) : Type 0 where
  pub here : seat s.me ≡ Some (pass, place)
  pub process : w.each s.me ≡ process_at setup s.me s.journal
  pub pushed : (bytes : List ℕ) → DidIn s.journal (A.Pushed bytes) → IsSent w.parts bytes
  pub popped : (bytes : List ℕ) → DidIn s.journal (A.Popped bytes) → IsSent w.parts bytes

-- one pass. The maker has the right to seat all processes from the next one on, which have done nothing; where it is not named, no pass is
pub record FitsView (w : WorldView) (seat : Seating) (named : Bool) (setup : Setup) (maker : ℕ) (pass : ℕ) (v : View) : Type 0 where
  pub makes : v.makes ≡ true → (pass ≡ maker) × ((p : ℕ) → v.made ≤ p → (seat p ≡ None) × (w.each p ≡ at_start setup p)) × (v.named ≡ named)
  pub names : v.named ≡ true → (named ≡ true) × (v.setup ≡ setup)
  pub seats : (place : ℕ) (s : Seen) → slice_get v.seats place ≡ Some s → FitsSeat w seat setup pass place s

-- what can happen leads to the world that all this shows, and what was pushed was popped or is in the queue still, by their number
pub record SoundQueue (items : List (List ℕ)) (views : List View) : Type 0 where
  pub happenings : List Happening
  pub seat : Seating
  pub named : Bool
  pub setup : Setup
  pub maker : ℕ
  pub may : MayGoOn (start_of setup) happenings
  pub planned : BeginsPlan setup (world_of setup happenings)
  pub frames : (k : ℕ) (bytes : List ℕ) → slice_get items k ≡ Some bytes → IsPushed views bytes
  pub counted : all_pushed views ≡ all_popped views + length items
  pub passes : (pass : ℕ) (v : View) → get_elem? views pass ≡ some v → FitsView (world_of setup happenings) seat named setup maker pass v

-- all processes of this view are of one world, and they are different processes
pub record StandsForOneWorld (v : View) : Type 0 where
  pub happenings : List Happening
  pub may : MayGoOn (start_of v.setup) happenings
  pub each : (place : ℕ) (s : Seen) → slice_get v.seats place ≡ Some s → (world_of v.setup happenings).each s.me ≡ process_at v.setup s.me s.journal
  pub sent : (place : ℕ) (s : Seen) → slice_get v.seats place ≡ Some s → (bytes : List ℕ) → DidIn s.journal (A.Popped bytes) → IsSent (world_of v.setup happenings).parts bytes
  pub apart : (i j : ℕ) (s t : Seen) → slice_get v.seats i ≡ Some s → slice_get v.seats j ≡ Some t → s.me ≡ t.me → i ≡ j

-- under its rule the queue held these frames, while a pass knew so much
pub record IsHeldAt (v : View) (items : List (List ℕ)) : Type 0 where
  pub views : List View
  pub sound : SoundQueue items views
  pub pass : ℕ
  pub here : get_elem? views pass ≡ some v
