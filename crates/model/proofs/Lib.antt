pub mod AllGood
