use Rattle.std.proofs.Common.{◌∙◌, Bool, subst, sym}
use Rattle.session_core.specs.Talks.{Bears, Talk}
use Rattle.session_core.proofs.Callers.{all_got, got_borne, got_grown}
use Rattle.store_core.specs.Objects.{Objects}
use Rattle.log_reading.specs.LogCache.{IsCacheOf}
use Rattle.log_reading.specs.declared.log_cache.LogCache.{LogCache}
use Rattle.table_log.specs.Loads.{IsFront}
use Rattle.table_jobs.specs.Sessions.{job_of}
use Rattle.table_jobs.specs.Views.{job_view}
use Rattle.table_jobs.proofs.Callers.{cache_grown}
use Rattle.stream_model.specs.Worlds.{IsBegunAs}
use Rattle.stream_world.specs.Standing.{PlacesAs, SlotDoes, WorldStands, slot_at}
use Rattle.stream_world.proofs.PairedTold.{can_begin}
use Rattle.stream_world.proofs.Worlds.{begun_as, known_alike, on_ok}
use Rattle.stream_world.proofs.world.World.begin_knowing.Goals as goal

pub returns-clause-happens : goal.returns-clause-happens
returns-clause-happens g c = λ w stands.
    let s = g.S.Store in
    let objects : Objects = s.objects c.args.self.now.store.store in
    let all : Talk = all_got objects objects in
    let empty = c.new-cache.ensures.cache objects in
    let cache : LogCache = record c.new-cache.result { loaded = c.forget.result } in
    let front : IsFront objects c.forget.result = subst (IsFront objects) (sym c.forget.ensures.known) stands.known in
    let is_cache : IsCacheOf objects cache = record { loaded = front; log = empty.log; file = empty.file } in
    let left = c.behind-session.ensures.cache objects is_cache in
    let same_store : Objects = s.objects c.forget.new.self.store.store in
    let there : IsFront same_store c.replace.result = subst (IsFront same_store) (sym c.replace.ensures.value) (subst (λ t. IsFront (s.objects t.store) c.behind-session.new.cache.loaded) (sym c.forget.ensures.same.0) left.loaded) in
    let stood : WorldStands s.objects c.learn.new.self w = c.learn.ensures.stands w (c.forget.ensures.stands w stands) there in
    let borne : Bears w.objects all = subst (λ (o : Objects). Bears o all) (sym stands.objects) (got_borne objects) in
    let fits = c.behind-session.ensures.fits all (λ more bears. cache_grown objects more (got_grown objects more bears) cache is_cache) in
    let job = job_view c.args.job in
    let same : IsBegunAs job (job_of c.behind-session.result) = subst (IsBegunAs job) (sym c.behind-session.ensures.job) (begun_as cache job) in (
      job_of c.behind-session.result,
      all,
      subst (λ (b : Bool). PlacesAs s.objects b w c.args.actor job (job_of c.behind-session.result) all c.place.result c.place.new.self) (c.learn.ensures.same.2 ∙ c.forget.ensures.same.2)
          (c.place.ensures.places w job all stood (can_begin c.args.job) same borne fits),
    )

pub returns-clause-can : goal.returns-clause-can
returns-clause-can g c = can_begin c.args.job

pub returns-clause-knows : goal.returns-clause-knows
returns-clause-knows g c = on_ok c.place.result _ _ c.place.ensures.slot (λ does cache loaded none.
    subst (SlotDoes (slot_at c.place.new.self c.args.actor))
    (c.behind-session.ensures.job ∙ known_alike (record c.new-cache.result { loaded = c.forget.result }) cache (job_view c.args.job) (c.forget.ensures.known ∙ sym loaded) (c.new-cache.ensures.nothing.2 ∙ sym none)) does)
