-- What each fault is called: its number, its layer and its three places.
use Rattle.std.specs.Prelude.{ℕ, List, [], ◌∷◌, ◌++◌, codes, decimal, slice_index}
use Rattle.fault.specs.declared.kinds.Field.{Field}
use Rattle.fault.specs.declared.kinds.Field.TheVariants.{Width, Height, Carriers, Entries}
use Rattle.fault.specs.declared.kinds.Flaw.TheVariants.{Carrier, Cell, Neighbour}
use Rattle.fault.specs.declared.kinds.Conflict.TheVariants.{Clash, Following}
use Rattle.fault.specs.declared.kinds.RecordFault.TheVariants.{Short, Header, Length}
use Rattle.fault.specs.declared.kinds.EntryFault.TheVariants.{Record, Flawed}
use Rattle.fault.specs.declared.kinds.PlanFault.{PlanFault}
use Rattle.fault.specs.declared.kinds.PlanFault.TheVariants.{Entry, Conflict as Conflicting}
use Rattle.fault.specs.declared.kinds.GraphFault.{GraphFault}
use Rattle.fault.specs.declared.kinds.GraphFault.TheVariants.{Plan, Crossings}
use Rattle.fault.specs.declared.kinds.RoomFault.{RoomFault}
use Rattle.fault.specs.declared.kinds.DriveFault.{DriveFault}
use Rattle.fault.specs.declared.kinds.DriveFault.TheVariants.{NoCarrier, AlreadyGoing, NotGoing, NoCell, NotThere}
use Rattle.fault.specs.declared.report.Layer.{Layer}
use Rattle.fault.specs.declared.report.Layer.TheVariants.{Record as record_layer, Entry as entry_layer, Plan as plan_layer, Graph as graph_layer, Drive as drive_layer}
use Rattle.fault.specs.declared.report.Report.{Report}

-- which of the header's numbers a field is, from 0
abbrev pub place_of : Field → ℕ
place_of Width = 0
place_of Height = 1
place_of Carriers = 2
place_of Entries = 3

abbrev pub report : ℕ → Layer → ℕ → ℕ → ℕ → Report
report n l a b c = record { number = n; layer = l; places = a ∷ b ∷ c ∷ [] }

-- Every fault's number, layer and places. Of a flaw the place is the index of its entry, of a conflict the places are the
-- step and the two carriers.
abbrev pub report_of : PlanFault → Report
report_of (Entry (Record Short)) = report 1 record_layer 0 0 0
report_of (Entry (Record (Header f))) = report 2 record_layer (place_of f) 0 0
report_of (Entry (Record Length)) = report 3 record_layer 0 0 0
report_of (Entry (Flawed Carrier k)) = report 4 entry_layer k 0 0
report_of (Entry (Flawed Cell k)) = report 5 entry_layer k 0 0
report_of (Entry (Flawed Neighbour k)) = report 6 entry_layer k 0 0
report_of (Conflicting Clash m) = report 7 plan_layer m.step m.first m.second
report_of (Conflicting Following m) = report 8 plan_layer m.step m.first m.second

-- What is reported of a graph: the fault of its plan, that it has more crossings than it can hold, or that a list that the caller
-- lends is too short, and how long it needs to be.
abbrev pub graph_report : GraphFault → Report
graph_report (Plan f) = report_of f
graph_report Crossings = report 9 graph_layer 0 0 0

abbrev pub room_report : RoomFault → Report
room_report f = report 24 graph_layer f.needed 0 0

-- What is reported of a drive: the place is the carrier, or the cell to which it was sent.
abbrev pub drive_report : DriveFault → Report
drive_report (NotThere c) = report 17 drive_layer c 0 0
drive_report (NoCarrier c) = report 20 drive_layer c 0 0
drive_report (AlreadyGoing c) = report 21 drive_layer c 0 0
drive_report (NotGoing c) = report 22 drive_layer c 0 0
drive_report (NoCell t) = report 23 drive_layer t 0 0

abbrev pub number_of : PlanFault → ℕ
number_of f = (report_of f).number

-- words with a space between each two
abbrev pub spaced : List (List ℕ) → List ℕ
spaced [] = []
spaced (w ∷ []) = w
spaced (w ∷ v ∷ vs) = w ++ (codes " " ++ spaced (v ∷ vs))

-- a report as programs print it
abbrev pub layer_text : Layer → List ℕ
layer_text record_layer = codes "record"
layer_text entry_layer = codes "entry"
layer_text plan_layer = codes "plan"
layer_text graph_layer = codes "graph"
layer_text drive_layer = codes "drive"

abbrev pub report_text : Report → List ℕ
report_text r =
    spaced (decimal r.number ∷ layer_text r.layer ∷ decimal (slice_index r.places 0) ∷ decimal (slice_index r.places 1) ∷ decimal (slice_index r.places 2) ∷ [])
