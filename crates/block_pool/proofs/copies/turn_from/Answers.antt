use Rattle.{std.proofs.lemmas.List.{get_or_default}, column_core.proofs.cells.Common.{◌∙◌, ap, arith}, block_pool.{specs.Placed.{turned}, proofs.CopyLaws.{changed_more}}}
use Rattle.block_pool.proofs.copies.turn_from.Goals as goal

pub loop-k-preserved : goal.loop-k-preserved
loop-k-preserved c =
    let inv = c.loop-k.invariant in
    record {
      items = changed_more turned c.args.list.now.items c.args.from c.loop-k.k (omega (arith, c.loop-k.auto.k)) (omega (arith, c.loop-k-test.true, c.len-k-end.ensures, c.args.list.now.ok.0)) c.loop-k.list.items inv.items c.reverse.new.self
          (c.reverse.ensures ∙ ap turned (c.index_mut.ensures.value ∙ get_or_default c.loop-k.list.items c.loop-k.k c.index_mut.result.now c.reverse.new.self (omega (arith, c.loop-k-test.true, c.len-k-end.ensures, c.loop-k.list.ok.0, inv.len))));
      len = inv.len;
      capacity = inv.capacity;
    }
