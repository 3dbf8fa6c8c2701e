mod AllLines
