-- Statement: why a loop stops. PROTOCOL 10.10.
use Rattle.std.specs.Prelude.{ℕ}
use Rattle.listing.specs.declared.feeding.Stop.{Stop}
use Rattle.listing.specs.declared.feeding.Stop.TheVariants as stop

-- the number of each reason
abbrev pub stop_of : Stop → ℕ
stop_of stop.Done = 0
stop_of stop.Room = 22
stop_of stop.State = 17
stop_of stop.Used = 18
