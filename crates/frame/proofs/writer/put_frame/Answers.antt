-- `writer::put_frame` meets its contract: the header, the head, the parts and the sum, one after another.
use Rattle.std.proofs.Common.{◌≡◌, ℕ, List, [], ◌∷◌, length, arith, length-set}
use Rattle.frame.proofs.Writing.{put_append, put_framed, framed-length}
use Rattle.frame.proofs.writer.put_frame.Goals as goal

pub put-after_head-requires : goal.put-after_head-requires
put-after_head-requires g c =
    let room = framed-length c.args.head (g.P.Bytes.bytes c.args.payload) c.args.sum in
    simp length-set (omega (arith, room))

pub put-after_payload-requires : goal.put-after_payload-requires
put-after_payload-requires g c =
    let room = framed-length c.args.head (g.P.Bytes.bytes c.args.payload) c.args.sum in
    let kept : length c.put-after_head.new.out ≡ length c.args.out.now =
    simp length-set at c.put-after_head.auto.out in
    omega (arith, room, kept)

pub put_byte-requires : goal.put_byte-requires
put_byte-requires g c =
    let room = framed-length c.args.head (g.P.Bytes.bytes c.args.payload) c.args.sum in
    let kept : length c.put-after_head.new.out ≡ length c.args.out.now =
    simp length-set at c.put-after_head.auto.out in
    omega (arith, room, kept)

pub returns : goal.returns
returns g c =
    let payload : List ℕ = g.P.Bytes.bytes c.args.payload in
    let rest = put_append _ payload (c.args.sum ∷ []) _ c.put-after_payload.ensures c.put_byte.ensures in
    put_framed c.args.out.now _ (put_append _ c.args.head _ 2 c.put-after_head.ensures rest)
