use Rattle.std.proofs.Common.{ℕ, ap, ◌∙◌, ◌≡◌, ◌+◌, ◌*◌, ◌≤◌, ◌<◌, length, arith, rules}
use Rattle.std.proofs.lemmas.Grind.{get_or_default_zero}
use Rattle.night.proofs.NightLaws.{lent_fits, playing-more}
use Rattle.night.proofs.LentLaws.{grows, lent_list, lent_count, given_list, given_beside, playing-same, run-same}
use Rattle.night.proofs.play_all.Goals as goal

pub overflow_add-end : goal.overflow_add-end
overflow_add-end g c =
    let l = c.loop-w in
    let f = lent_fits l.invariant.playing c.requires (omega (arith, c.len-words.ensures)) in
    let s = g.met.S.Layout.fits c.args.stamps.now _ f.0 in
    let r = grows (l.at + length (g.T.Layout.list c.args.trace.now)) g.S.Layout.SIZE g.met.S.Layout.some in
    let e : l.at + c.len-n.result ≤ length c.args.stamps.now = omega (arith, c.len-n.ensures) in
    search rules

pub offset_bounds-order-at : goal.offset_bounds-order-at
offset_bounds-order-at g c =
    let l = c.loop-w in
    let f = lent_fits l.invariant.playing c.requires (omega (arith, c.len-words.ensures)) in
    let s = g.met.O.Layout.fits l.order l.at (omega arith) in
    let e : l.at * c.SIZE-in-loop-w-2.result ≤ length l.order = rw c.SIZE-in-loop-w-2.ensures s in
    search rules

pub overflow_mul-at-in-loop-w-2 : goal.overflow_mul-at-in-loop-w-2
overflow_mul-at-in-loop-w-2 g c =
    let l = c.loop-w in
    let f = lent_fits l.invariant.playing c.requires (omega (arith, c.len-words.ensures)) in
    let s = g.met.D.Layout.fits l.due l.at (omega arith) in
    let e : l.at * c.SIZE-in-loop-w-4.result ≤ length l.due = rw c.SIZE-in-loop-w-4.ensures s in
    search rules

pub overflow_mul-end-in-loop-w-2 : goal.overflow_mul-end-in-loop-w-2
overflow_mul-end-in-loop-w-2 g c =
    let l = c.loop-w in
    let f = lent_fits l.invariant.playing c.requires (omega (arith, c.len-words.ensures)) in
    let s = g.met.D.Layout.fits l.due _ f.2 in
    let e : (l.at + c.len-n.result) * c.SIZE-in-loop-w-5.result ≤ length l.due = rw (c.SIZE-in-loop-w-5.ensures, c.len-n.ensures) s in
    search rules

pub offset_bounds-due-at : goal.offset_bounds-due-at
offset_bounds-due-at g c =
    let l = c.loop-w in
    let f = lent_fits l.invariant.playing c.requires (omega (arith, c.len-words.ensures)) in
    let s = g.met.D.Layout.fits l.due l.at (omega arith) in
    let e : l.at * c.SIZE-in-loop-w-4.result ≤ length l.due = rw c.SIZE-in-loop-w-4.ensures s in
    search rules

pub slice_bounds-play_word-end-in-loop-w-2 : goal.slice_bounds-play_word-end-in-loop-w-2
slice_bounds-play_word-end-in-loop-w-2 g c =
    let l = c.loop-w in
    let f = lent_fits l.invariant.playing c.requires (omega (arith, c.len-words.ensures)) in
    let s = g.met.D.Layout.fits l.due _ f.2 in
    let e : (l.at + c.len-n.result) * c.SIZE-in-loop-w-5.result ≤ length l.due = rw (c.SIZE-in-loop-w-5.ensures, c.len-n.ensures) s in
    let a : l.at * c.SIZE-in-loop-w-4.result ≤ (l.at + c.len-n.result) * c.SIZE-in-loop-w-5.result = rw (c.SIZE-in-loop-w-4.ensures, c.SIZE-in-loop-w-5.ensures) (omega arith) in
    search rules

pub loop-w-preserved : goal.loop-w-preserved
loop-w-preserved g c =
    let l = c.loop-w in
    let f = lent_fits l.invariant.playing c.requires (omega (arith, c.len-words.ensures)) in
    let one = c.play_word-played in
    let more : l.w < length (g.S.Layout.list c.args.starts.now) = omega (arith, c.len-words.ensures) in
    let n = length (g.T.Layout.list c.args.trace.now) in
    let en : l.at + c.len-n.result ≡ l.at + n = omega (arith, c.len-n.ensures) in
    let S = g.met.S.Layout in
    let O = g.met.O.Layout in
    let D = g.met.D.Layout in
    let s0 = ap (λ (x : ℕ). l.at * x) c.SIZE.ensures in
    let s1 : (l.at + c.len-n.result) * c.SIZE-in-loop-w.result ≡ (l.at + n) * g.S.Layout.SIZE = rw (c.SIZE-in-loop-w.ensures, c.len-n.ensures) in
    let o0 = ap (λ (x : ℕ). l.at * x) c.SIZE-in-loop-w-2.ensures in
    let o1 : (l.at + c.len-n.result) * c.SIZE-in-loop-w-3.result ≡ (l.at + n) * g.O.Layout.SIZE = rw (c.SIZE-in-loop-w-3.ensures, c.len-n.ensures) in
    let d0 = ap (λ (x : ℕ). l.at * x) c.SIZE-in-loop-w-4.ensures in
    let d1 : (l.at + c.len-n.result) * c.SIZE-in-loop-w-5.result ≡ (l.at + n) * g.D.Layout.SIZE = rw (c.SIZE-in-loop-w-5.ensures, c.len-n.ensures) in
    let ls = lent_list g.S.Layout.list g.S.Layout.beside g.S.Layout.SIZE S.fits S.counts S.part S.back c.args.stamps.now l.at n f.0 s0 s1 in
    let lo = lent_list g.O.Layout.list g.O.Layout.beside g.O.Layout.SIZE O.fits O.counts O.part O.back l.order l.at n f.1 o0 o1 in
    let ld = lent_list g.D.Layout.list g.D.Layout.beside g.D.Layout.SIZE D.fits D.counts D.part D.back l.due l.at n f.2 d0 d1 in
    let st = c.at-start.ensures ∙ get_or_default_zero (g.S.Layout.list c.args.starts.now) l.w c.at-start.result more in
    let next = playing-more l.invariant.playing c.requires more c.mark.result
    (lent_count g.O.Layout.list g.O.Layout.beside g.O.Layout.SIZE O.fits O.counts O.part O.back l.order l.at n f.1 o0 o1 one.new.order one.auto.order)
    (lent_count g.D.Layout.list g.D.Layout.beside g.D.Layout.SIZE D.fits D.counts D.part D.back l.due l.at n f.2 d0 d1 one.new.due one.auto.due)
    (run-same one.ensures.run st ls lo ld) c.mark.ensures in
    record {
      playing = playing-same next
          (given_list g.O.Layout.list g.O.Layout.beside g.O.Layout.SIZE O.fits O.counts O.part O.back l.order l.at n f.1 o0 o1 one.new.order one.auto.order)
          (given_list g.D.Layout.list g.D.Layout.beside g.D.Layout.SIZE D.fits D.counts D.part D.back l.due l.at n f.2 d0 d1 one.new.due one.auto.due)
          c.put.ensures.is en;
      order_rest = given_beside g.O.Layout.list g.O.Layout.beside g.O.Layout.SIZE O.fits O.counts O.part O.back l.order l.at n f.1 o0 o1 one.new.order one.auto.order
          ∙ l.invariant.order_rest;
      due_rest = given_beside g.D.Layout.list g.D.Layout.beside g.D.Layout.SIZE D.fits D.counts D.part D.back l.due l.at n f.2 d0 d1 one.new.due one.auto.due
          ∙ l.invariant.due_rest;
      marks_rest = c.put.ensures.rest ∙ l.invariant.marks_rest;
    }
