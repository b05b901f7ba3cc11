use Rattle.cutting.proofs.WriteLaws.{whole_length, first-length, later-length}
use Rattle.cutting.proofs.write.part_len.Goals as goal

pub returns-in-Whole : goal.returns-in-Whole
returns-in-Whole c = whole_length _ _ _ c.requires _ c.in-Whole.is c.left-rest.ensures

pub returns-in-First : goal.returns-in-First
returns-in-First c = first-length _ _ _ c.requires _ _ _ c.in-First.is c.left-rest.ensures c.min.ensures

pub returns-in-Later : goal.returns-in-Later
returns-in-Later c = later-length _ _ _ c.requires _ _ _ _ c.in-Later.is c.left-rest.ensures c.min-in-Later.ensures
