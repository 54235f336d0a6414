-- Faithful tables of version 2 keep order.
use Rattle.snap_order.specs.Laws.{FaithfulKeepsOrder}
use Rattle.snap_order.proofs.Hops.{few_hops_made}
use Rattle.snap_order.proofs.Promises.{agrees, arrays_in_order, behind_waits, least_goes_on, waits_behind}

pub keeps_order : FaithfulKeepsOrder
keeps_order p topology places t f version = record {
  arrays = λ m es s us o q. arrays_in_order p topology places t f version m es s us o q;
  ended = λ m es s us o none. agrees p topology places t f version m es s us o none;
  hops = λ order d rank diameter m es s us o. few_hops_made p topology places t f version order d rank diameter m es s us o;
  waits = λ m es s us o i x s' vs found leads. (
    behind_waits p topology places t f version m es s us o i x found leads,
    waits_behind p topology places t f version m es s us o i x found leads,
  );
  least = λ m es s us o i x s' vs found least leads. least_goes_on p topology places t f version m es s us o i x found least leads;
}
