-- `points::records::place_number` meets its contract. Assumes nothing.
use Rattle.rym1.proofs.Points.{place_bytes}
use Rattle.points.proofs.records.place_number.Goals as goal

pub returns : goal.returns
returns c = place_bytes c.args.p
