-- The stop that a fault of polynomials becomes.
use Rattle.cgs_poly.specs.declared.fault.PolyFault.{PolyFault}
use Rattle.cgs_poly.specs.declared.fault.PolyFault.TheVariants as fault
use Rattle.cgs_divide.specs.declared.stop.Stop.{Stop}
use Rattle.cgs_divide.specs.declared.stop.Stop.TheVariants as stop

-- the stop of the same name
abbrev pub stop_of : PolyFault → Stop
stop_of fault.Degree = stop.Degree
stop_of fault.OutOfMemory = stop.OutOfMemory
