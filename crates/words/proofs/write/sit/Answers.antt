use Rattle.reassembly.specs.Slots.{no_source, no_node}
use Rattle.words.proofs.Numbers.{table-begun, table-clear}
use Rattle.words.proofs.write.sit.Goals as goal

pub returns : goal.returns
unfolding no_source no_node
returns c = table-begun c.args.seats c.well_formed.1.0.1.0.1 _ _ _ _ _ (table-clear c.clear.new.t c.clear.ensures) c.put_seat.ensures c.put_seat-2.ensures c.put_seat-3.ensures c.put_seat-4.ensures
