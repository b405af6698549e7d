use Rattle.seat_cases.proofs.readers.tell_follows.Goals as goal

pub loop-item-init : goal.loop-item-init
loop-item-init g c =
    let new = c.new-cache.ensures in
    (tt, tt, c.what_is_known_of_a_log_stays.ensures.begins c.in-Some.holder.seat c.new-cache.result.log c.new-cache.result.file new.nothing.2 (λ objects. (new.cache objects).log) (λ objects. (new.cache objects).file))
