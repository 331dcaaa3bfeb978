-- The texts of the faults of a spelt order.
use Rattle.std.specs.Prelude.{List, ℕ, ◌++◌, codes}
use Rattle.std.specs.Fmt.{decimal}
use Rattle.strm_script_orders.specs.declared.fault.OrderCause.{OrderCause}
use Rattle.strm_script_orders.specs.declared.fault.OrderCause.TheVariants.{Unknown, NoneLeft, Waits, Ended, NoMemory}
use Rattle.strm_script_orders.specs.declared.fault.OrderFault.{OrderFault}

abbrev pub order_cause_text : OrderCause → List ℕ
order_cause_text Unknown = codes "no process or feed of this name"
order_cause_text NoneLeft = codes "no step left"
order_cause_text Waits = codes "awaits a feed"
order_cause_text Ended = codes "steps are left over"
order_cause_text NoMemory = codes "no memory"

-- the text of a fault: `step N: TEXT`
abbrev pub order_fault_text : OrderFault → List ℕ
order_fault_text fault = codes "step " ++ decimal fault.step ++ codes ": " ++ order_cause_text fault.cause
