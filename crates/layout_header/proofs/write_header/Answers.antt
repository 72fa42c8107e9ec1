-- `layout_header::write_header` meets its contract.
use Rattle.layout.specs.Layout.{stocked, put_free, put_count, put_last}
use Rattle.layout.proofs.CodeLaws.{header-fields}
use Rattle.layout_header.proofs.write_header.Goals as goal

pub returns : goal.returns
unfolding put_free put_count put_last
returns c = let h = c.args.header in
    header-fields c.args.part.now h.counts.logs h.counts.slots h.keeper h.free (stocked h.count h.last) h.key.now c.put_array.ensures.array c.requires.part_len
    c.write_counts.ensures c.put_number.ensures c.put_free.ensures c.put_free-2.ensures c.put_array.ensures.put c.put_free-3.ensures
