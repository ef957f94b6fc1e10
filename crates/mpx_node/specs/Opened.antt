-- What was done on a context, and on all that are opened.
use Rattle.std.specs.Prelude.{◌<◌, ℕ, length, [], ◌∷◌, ◌++◌, cond, Option, Some}
use Rattle.std.specs.Option.{option_map}
use Rattle.std.specs.BTreeMap.{BTreeMap, get}
use Rattle.mpx_name.specs.Order.{name_cmp}
use Rattle.mpx_name.specs.Name.{Name, same_name}
use Rattle.mpx_node.specs.declared.finished.Finished.{Finished}
use Rattle.mpx_node.specs.declared.opened.Opened.{Opened}
use Rattle.mpx_node.specs.Nodes.{OpenedView, posted_by, results_by}
use Rattle.mpx_node.specs.Stored.{after_gone, let_go}

-- how many calls are posted, the results of those that are harvested, of which the first are let go, and whether a free is posted
abbrev pub opened_of : Opened → OpenedView
opened_of o = record { posted = o.posted; results = after_gone o.gone o.results.items; freed = o.freed }

-- the same of each context that is opened
abbrev pub opened_by : BTreeMap Name Opened → Name → Option OpenedView
opened_by m name = option_map opened_of (get name_cmp m name)

-- with one more result on a context
abbrev pub stored_by : Name → Finished → (Name → Option OpenedView) → Name → Option OpenedView
stored_by name finished opened q = cond (same_name q name) (option_map (λ (o : OpenedView). record o { results = o.results ++ Some finished ∷ [] }) (opened q)) (opened q)

-- a call is posted there that isn't harvested
abbrev pub HasUnfinished : (Name → Option OpenedView) → Name → Type 0
HasUnfinished opened name = length (results_by (opened name)) < posted_by (opened name)

-- the results below this call are let go, but never the newest
abbrev pub lets_go : (below : ℕ) → OpenedView → OpenedView
lets_go below o = record o { results = let_go below o.results }
