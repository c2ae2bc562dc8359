mod FirstBytes
mod Pairs
