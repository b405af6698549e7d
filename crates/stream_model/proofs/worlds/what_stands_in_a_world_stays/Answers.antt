use Rattle.stream_model.proofs.Running.{later_world, ran_grew}
use Rattle.stream_model.proofs.worlds.what_stands_in_a_world_stays.Goals as goal

pub returns-clause-objects : goal.returns-clause-objects
returns-clause-objects c = λ w later events outs ran. ran_grew w events outs later ran

pub returns-clause-world : goal.returns-clause-world
returns-clause-world c = λ events more outs told w later of ran. later_world events outs w of more told later ran

pub returns-clause-log : goal.returns-clause-log
returns-clause-log c = λ events more outs told w later of ran schema other entries others holds held.
    c.a_sound_table_grows_at_its_end.ensures.front w.objects later.objects schema other entries others (c.every_world.ensures.sound events outs w of) (ran_grew w more told later ran) holds held

pub returns-clause-schema : goal.returns-clause-schema
returns-clause-schema c = λ events more outs told w later of ran schema other first entries others holds held.
    c.a_sound_table_grows_at_its_end.ensures.schema w.objects later.objects schema other first entries others (c.every_world.ensures.sound events outs w of) (ran_grew w more told later ran) holds held
