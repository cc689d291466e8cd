-- part_whole. Assumes nothing.
use Rattle.base.specs.PartsExact.{PartsWhole}

pub part_whole : PartsWhole
part_whole whole part start size p = record { bytes = p.bytes; place = (p.block, p.offset) }
