-- What the answers of reading a frame mean.
use Rattle.std.specs.Prelude.{Result, Ok, Err, ℕ, ◌+◌, List, take, drop}
use Rattle.octets.specs.Read.{Read, got, refused}
use Rattle.octets.specs.Refusal.{number_of}
use Rattle.octets.specs.declared.refusal.Refusal.{Refusal}
use Rattle.octets.specs.declared.cursor.Cursor.{Cursor}
use Rattle.capture.specs.Block.{Timed}
use Rattle.pcap.specs.declared.read.TimedFrame.{TimedFrame}
use Rattle.pcap.specs.declared.read.FrameAt.{FrameAt}

abbrev pub of_frame : Result (TimedFrame × Cursor) Refusal → Read Timed
of_frame (Ok p) = got (record { time = p.0.time; frame = p.0.bytes.now }) p.1.at
of_frame (Err e) = refused (number_of e)

-- of the bytes that were read
abbrev pub of_frame_at : List ℕ → Result FrameAt Refusal → Read Timed
of_frame_at s (Ok f) = got (record { time = f.time; frame = take f.len (drop f.start.at s) }) (f.start.at + f.len)
of_frame_at s (Err e) = refused (number_of e)
