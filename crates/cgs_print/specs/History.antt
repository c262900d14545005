-- The printed text of a history.
use Rattle.std.specs.Prelude.{ℕ, List, [], ◌++◌, length, codes, decimal}
use Rattle.std.specs.List.{flat_map}
use Rattle.cgs_board.specs.declared.event.Event.{Event}
use Rattle.cgs_board.specs.declared.event.Event.TheVariants.{Claim, Give, Quit}
use Rattle.cgs_print.specs.Printing.{path_text}

-- what happened, and by which worker
abbrev pub worker_text : List ℕ → ℕ → List ℕ
worker_text word worker = word ++ codes " " ++ decimal worker ++ codes " "

-- the same, and to the branch at which path
abbrev pub event_head : List ℕ → ℕ → List ℕ → List ℕ
event_head word worker path = worker_text word worker ++ path_text path

-- the numbers of children and entries of a node, to the end of the line
abbrev pub node_numbers : ℕ → ℕ → List ℕ
node_numbers children entries = codes " " ++ decimal children ++ codes " " ++ decimal entries ++ codes "\n"

-- the line of a branch that was claimed
abbrev pub claim_line : ℕ → List ℕ → List ℕ
claim_line worker path = event_head (codes "claim") worker path ++ codes "\n"

-- the line of a branch that was given back with its node
abbrev pub give_line : ℕ → List ℕ → ℕ → ℕ → List ℕ
give_line worker path children entries = event_head (codes "give") worker path ++ node_numbers children entries

-- the line of an event; no history that is printed has a worker that gave up
abbrev pub event_line : Event → List ℕ
event_line (Claim worker path) = claim_line worker path
event_line (Give worker path children entries) = give_line worker path children entries
event_line (Quit worker) = []

-- the first line, with the number of events
abbrev pub history_line : ℕ → List ℕ
history_line count = codes "history " ++ decimal count ++ codes "\n"

-- the number of events, and a line for each in order
abbrev pub history_text : List Event → List ℕ
history_text events = history_line (length events) ++ flat_map event_line events
