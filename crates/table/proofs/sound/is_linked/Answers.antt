use Prim.Native.Nat.{◌-◌, ◌<◌}
use mathlib.Core.Path.{◌≡◌, sym, ◌∙◌}
use native.Mathlib.Omega.{arith}
use Rattle.table.proofs.Laws.{fails}
use Rattle.table.specs.Lending.{store_in}
use Rattle.table.proofs.Laws as laws
use Rattle.table.proofs.Whole.{bucket_hash}
use Rattle.table.proofs.Links.{first_linked, linked_follows, order_linked}
use Rattle.table.proofs.sound.is_linked.Goals as goal

pub returns-then-before-eq0 : goal.returns-then-before-eq0
returns-then-before-eq0 c = let st = store_in c.args.table.now in first_linked st c.args.table.now.index.now c.args.u c.args.n (sym c.word-before.ensures.0 ∙ c.if-before-eq0.true) (c.scaled-bucket.ensures.0 ∙ bucket_hash st c.args.n (c.word-hash.ensures.0 ∙ (c.requires.3 c.args.n c.requires.2).hashed)) c.names.ensures

pub returns-then-home-bucket : goal.returns-then-home-bucket
returns-then-home-bucket c = let st = store_in c.args.table.now in
    let n = c.args.n in
    let m = c.word-before.result - 1 in
    let u : m < c.args.u = laws.one_less c.if-before-eq0.false c.if-u-before.false in
    let e = linked_follows st c.args.table.now.index.now c.args.u n m (laws.one_more c.word-before.ensures.0 c.if-before-eq0.false) in
    fails (λ p. omega (arith, c.if-home-bucket.true, c.scaled-home.ensures.0 ∙ (bucket_hash st m (c.word-other.ensures.0 ∙ (c.requires.3 m u).hashed) ∙ ((e p).bucket ∙ sym (c.scaled-bucket.ensures.0 ∙ bucket_hash st n (c.word-hash.ensures.0 ∙ (c.requires.3 n c.requires.2).hashed))))))

pub returns : goal.returns
returns c = let st = store_in c.args.table.now in
    let n = c.args.n in
    let m = c.word-before.result - 1 in
    let u : m < c.args.u = laws.one_less c.if-before-eq0.false c.if-u-before.false in
    let together : c.scaled-home.result ≡ c.scaled-bucket.result = omega arith in
    order_linked st c.args.table.now.index.now c.args.u n m (laws.one_more c.word-before.ensures.0 c.if-before-eq0.false) u (laws.decided_true c.names-2.ensures (c.if-not-names.false))
    (sym (c.scaled-home.ensures.0 ∙ bucket_hash st m (c.word-other.ensures.0 ∙ (c.requires.3 m u).hashed)) ∙ (together ∙ (c.scaled-bucket.ensures.0 ∙ bucket_hash st n (c.word-hash.ensures.0 ∙ (c.requires.3 n c.requires.2).hashed))))
    c.comes_before.ensures
